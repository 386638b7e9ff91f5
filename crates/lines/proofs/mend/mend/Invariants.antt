-- `mend` meets its contract: each turn toggles one pair more, which is not listed before. Assumes nothing.
use mathlib.Core.Path.{◌≡◌}
use lib.ListN.{take}
use Rattle.graph.specs.Graph.{edge}
use Rattle.repair.specs.Repair.{toggled}
use Rattle.lines.specs.Inner.{drawn_of}
use Rattle.lines.proofs.mend.mend.Given as goal

abbrev pub invariant-loop-x : goal.invariant-loop-x
invariant-loop-x l = l.graph ≡ drawn_of l.n (toggled l.n (edge l.n l.initial.graph) (take l.x-index l.repair))
