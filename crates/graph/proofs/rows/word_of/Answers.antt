-- `graph::rows::word_of` meets its contract: one bit more in each turn. Assumes nothing.
use Rattle.std.proofs.Common.{arith}
use Rattle.graph.proofs.RowLaws.{part_none, part_clear, part_next, part_end}
use Rattle.graph.proofs.rows.word_of.Goals as goal

pub loop-k-init : goal.loop-k-init
loop-k-init c = part_none _

pub with_bit-w-requires-clause-k_value : goal.with_bit-w-requires-clause-k_value
with_bit-w-requires-clause-k_value c = part_clear _ c.loop-k.invariant

pub loop-k-preserved : goal.loop-k-preserved
loop-k-preserved c =
    part_next _ _ c.loop-k.invariant (omega (arith, c.with_bit-w.type_inv)) c.edge_of.ensures c.with_bit-w.ensures

pub returns : goal.returns
returns c =
    part_end _ c.loop-k-test.false c.loop-k.invariant
