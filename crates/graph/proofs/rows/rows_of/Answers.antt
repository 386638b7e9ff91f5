use Rattle.std.proofs.Common.{arith}
use Rattle.graph.proofs.RowLaws.{begun_none, begun_next, begun_end}
use Rattle.graph.proofs.rows.rows_of.Goals as goal

pub loop-i-init : goal.loop-i-init
loop-i-init c = begun_none _

pub loop-i-preserved : goal.loop-i-preserved
loop-i-preserved c =
    begun_next _ _ _ (omega arith) c.loop-i.invariant c.row_of.ensures

pub returns : goal.returns
returns c =
    begun_end c.requires.n_bound c.loop-i-test.false c.loop-i.invariant
