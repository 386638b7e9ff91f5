-- `parents` meets its contract: each turn writes one line more behind those that are written. Assumes nothing.
use mathlib.Core.Path.{◌≡◌}
use mathlib.Core.List.{◌++◌}
use lib.ListN.{get_or}
use Rattle.graph.specs.Each.{each}
use Rattle.lines.specs.Lines.{parent_line}
use Rattle.lines.proofs.repaired.parents.Given as goal

abbrev pub invariant-loop-v : goal.invariant-loop-v
invariant-loop-v l = l.page ≡ l.initial.page ++ each l.v (λ u. parent_line u (get_or l.list u 0))
