-- `changes` meets its contract: each turn writes one line more behind those that are written. Assumes nothing.
use mathlib.Core.Path.{◌≡◌}
use mathlib.Core.List.{◌++◌}
use lib.ListN.{get_or}
use Rattle.graph.specs.Each.{each}
use Rattle.graph.specs.Graph.{edge}
use Rattle.lines.specs.Lines.{change_line}
use Rattle.lines.proofs.repaired.changes.Given as goal

abbrev pub invariant-loop-x : goal.invariant-loop-x
invariant-loop-x l = l.page ≡ l.initial.page ++ each l.x-index (λ k. change_line l.n (edge l.n l.graph) (get_or l.repair k 0))
