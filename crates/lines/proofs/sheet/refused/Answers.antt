-- `refused` meets its contract: the line of the number and the place. Assumes nothing.
use native.Mathlib.Omega.{arith}
use Rattle.lines.proofs.Behind.{room_alone}
use Rattle.lines.proofs.Bounds.{refusal_short}
use Rattle.lines.proofs.sheet.refused.Goals as goal

pub three-requires : goal.three-requires
three-requires c =
    room_alone c.requires _ (refusal_short c.number.result c.place-row.result.0 c.place-row.result.1 (omega arith) (omega arith) (omega arith))
