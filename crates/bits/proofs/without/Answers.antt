-- `bits::without` meets its contract: `bit_without` at 64 digits. Assumes nothing.
use native.Mathlib.Omega.{arith}
use Rattle.bits.proofs.Mask.{bit_without}
use Rattle.bits.proofs.without.Goals as goal

pub returns : goal.returns
returns c j = bit_without 64 c.args.w c.args.i j (omega arith) c.requires
