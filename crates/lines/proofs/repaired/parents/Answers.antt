use lib.ListN.{length, get_or}
use Rattle.lines.specs.Lines.{parent_line}
use Rattle.lines.proofs.Turns.{each_start, each_room, each_next}
use Rattle.lines.proofs.repaired.parents.Goals as goal

pub loop-v-init : goal.loop-v-init
loop-v-init c =
    each_start c.args.page.now (λ v. parent_line v (get_or c.args.list.now v 0)) (length c.args.list.now) c.requires

pub parent-requires : goal.parent-requires
parent-requires c =
    each_room c.args.page.now (λ v. parent_line v (get_or c.args.list.now v 0)) (length c.args.list.now) c.requires c.loop-v.v c.loop-v-test.true c.loop-v.invariant

pub loop-v-preserved : goal.loop-v-preserved
loop-v-preserved c =
    each_next c.args.page.now (λ v. parent_line v (get_or c.args.list.now v 0)) (length c.args.list.now) c.requires c.loop-v.v c.loop-v-test.true c.loop-v.invariant c.parent.ensures
