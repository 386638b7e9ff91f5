use mathlib.Core.Path.{◌∙◌, ap}
use lib.ListN.{length, take}
use Rattle.graph.specs.Graph.{edge}
use Rattle.repair.specs.Repair.{toggled}
use Rattle.lines.proofs.Drawn.{drawn_long}
use Rattle.lines.proofs.Mending.{listed_inside, mend_start, mend_more}
use Rattle.lines.proofs.mend.mend.Goals as goal

pub loop-x-init : goal.loop-x-init
loop-x-init c =
    c.requires.graph_value ∙ mend_start c.args.n (edge c.args.n c.args.graph.now) c.args.repair.now c.requires.repair_value.0 c.requires.repair_value.1

pub toggle-requires : goal.toggle-requires
toggle-requires c =
    record {
      x_bound = rw c.from.ensures (listed_inside c.args.n c.args.repair.now c.requires.repair_value.1 c.loop-x.x-index c.loop-x-test.true);
      graph_len = ap length c.loop-x.invariant ∙ drawn_long c.args.n (toggled c.args.n (edge c.args.n c.args.graph.now) (take c.loop-x.x-index c.args.repair.now));
    }

pub loop-x-preserved : goal.loop-x-preserved
loop-x-preserved c =
    mend_more c.args.n (edge c.args.n c.args.graph.now) c.args.repair.now c.requires.repair_value.0 c.requires.repair_value.1 c.loop-x.x-index c.loop-x-test.true c.loop-x.invariant (rw c.from.ensures at c.toggle.ensures)
