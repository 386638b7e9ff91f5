-- `bits::from` meets its contract: `bit_from` at 64 digits, and at i = 64 no bit is asked for. Assumes nothing.
use native.Mathlib.Omega.{arith}
use Rattle.bits.proofs.Mask.{bit_from, bit_from_none}
use Rattle.bits.proofs.from.Goals as goal

pub returns-then-i-eq64 : goal.returns-then-i-eq64
returns-then-i-eq64 c j = bit_from_none 64 c.args.i j (omega arith) (omega arith)

pub returns : goal.returns
returns c j = bit_from 64 c.args.i j (omega arith)
