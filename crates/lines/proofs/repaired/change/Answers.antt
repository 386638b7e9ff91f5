-- `change` meets its contract: the pair's own entry decides between the two words. Assumes nothing.
use Rattle.lines.proofs.Behind.{room_as, put_as}
use Rattle.lines.proofs.Changing.{change_cut, change_join}
use Rattle.lines.proofs.repaired.change.Goals as goal
use Rattle.lines.proofs.repaired.change.Goals.{then-graph-x-eq1, else-graph-x-eq1}

pub two-requires : goal.two-requires
two-requires c =
    elim c.if-graph-x-eq1.branch [
      | then-graph-x-eq1 w ↦
          rw w.word-is
          (room_as c.args.page.now (change_cut c.args.n c.args.graph.now c.args.x c.requires.x_bound.0 w.if-graph-x-eq1.true) c.requires.x_in_bounds)
      | else-graph-x-eq1 w ↦
          rw w.word-is
          (room_as c.args.page.now (change_join c.args.n c.args.graph.now c.args.x c.requires.x_bound.0 w.if-graph-x-eq1.false) c.requires.x_in_bounds)
    ]

pub returns : goal.returns
returns c =
    elim c.if-graph-x-eq1.branch [
      | then-graph-x-eq1 w ↦
          put_as c.args.page.now (change_cut c.args.n c.args.graph.now c.args.x c.requires.x_bound.0 w.if-graph-x-eq1.true)
          (rw w.word-is at c.two.ensures)
      | else-graph-x-eq1 w ↦
          put_as c.args.page.now (change_join c.args.n c.args.graph.now c.args.x c.requires.x_bound.0 w.if-graph-x-eq1.false)
          (rw w.word-is at c.two.ensures)
    ]
