use Prim.Native.Nat.{◌+◌, ◌*◌}
use Rattle.search.specs.Memory.{open_pairs}
use Rattle.search.proofs.WaysEnds.{Trying}
use Rattle.search.proofs.tree.Search.+node_way_ways.Given as goal

abbrev pub invariant-ways-loop-p : goal.invariant-ways-loop-p
invariant-ways-loop-p l =
    let m = l.initial.room in
    let m' = l.room in
    Trying l.self.n l.self.prune l.self.most m.words m.cost m.path m.kept l.spent l.places l.initial.tally m'.words m'.cost m'.path m'.kept l.tally l.p-index

abbrev pub decreases-node : goal.decreases-node
decreases-node l =
    3 * open_pairs l.self.now.n l.room.now.cost + 2

abbrev pub decreases-ways : goal.decreases-ways
decreases-ways l =
    3 * open_pairs l.self.now.n l.room.now.cost + 1

abbrev pub decreases-way : goal.decreases-way
decreases-way l =
    3 * open_pairs l.self.now.n l.room.now.cost
