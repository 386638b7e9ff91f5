-- `bits::less` meets its contract: `bit_less` at 64 digits. Assumes nothing.
use native.Mathlib.Omega.{arith}
use Rattle.bits.proofs.Mask.{bit_less}
use Rattle.bits.proofs.less.Goals as goal

pub returns : goal.returns
returns c j = bit_less 64 j (omega arith) (omega arith)
