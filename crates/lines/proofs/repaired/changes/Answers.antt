use lib.ListN.{length, get_or}
use Rattle.graph.specs.Graph.{edge}
use Rattle.lines.specs.Lines.{change_line}
use Rattle.lines.proofs.Turns.{each_start, each_room, each_next}
use Rattle.lines.proofs.repaired.changes.Goals as goal

pub loop-x-init : goal.loop-x-init
loop-x-init c =
    each_start c.args.page.now (λ k. change_line c.args.n (edge c.args.n c.args.graph.now) (get_or c.args.repair.now k 0)) (length c.args.repair.now) c.requires.repair_in_bounds

pub change-requires-clause-x_in_bounds : goal.change-requires-clause-x_in_bounds
change-requires-clause-x_in_bounds c =
    rw c.from.ensures
    (each_room c.args.page.now (λ k. change_line c.args.n (edge c.args.n c.args.graph.now) (get_or c.args.repair.now k 0)) (length c.args.repair.now) c.requires.repair_in_bounds c.loop-x.x-index c.loop-x-test.true c.loop-x.invariant)

pub loop-x-preserved : goal.loop-x-preserved
loop-x-preserved c =
    each_next c.args.page.now (λ k. change_line c.args.n (edge c.args.n c.args.graph.now) (get_or c.args.repair.now k 0)) (length c.args.repair.now) c.requires.repair_in_bounds c.loop-x.x-index c.loop-x-test.true c.loop-x.invariant (rw c.from.ensures at c.change.ensures)
