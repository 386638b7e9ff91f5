-- `graph::rows::with_bit` meets its contract: a clear bit is toggled, or left. Assumes nothing.
use Rattle.graph.proofs.RowLaws.{set_clear, left_clear}
use Rattle.graph.proofs.rows.with_bit.Goals as goal

pub returns-then-on : goal.returns-then-on
returns-then-on c =
    λ j. rw c.if-on.true (set_clear _ _ _ c.requires.k_value c.flipped.ensures j)

pub returns : goal.returns
returns c =
    λ j. rw c.if-on.false (left_clear _ _ c.requires.k_value j)
