-- `bound::Walk::lay_all` meets its contract. The loop over the pairs: those before `x-index` are laid. Assumes nothing.
use Rattle.std.proofs.Common.{take}
use Rattle.std.specs.List.{fold}
use Rattle.graph.specs.Graph.{word_edge}
use Rattle.repair.specs.Packing.{hopeless}
use Rattle.bound.specs.Pass.{laid, lower}
use Rattle.bound.specs.Leaves.{Laid}
use Rattle.bound.proofs.Walk.lay_all.Given as goal

abbrev pub invariant-loop-x : goal.invariant-loop-x
invariant-loop-x l =
    Laid (fold (λ u p. laid l.self.cost.now p.0 p.1 u) (word_edge l.initial.taken) (take l.x-index l.x-items))
    (fold (λ m p. lower l.self.cost.now p.0 p.1 m) hopeless (take l.x-index l.x-items)) l.taken l.low
