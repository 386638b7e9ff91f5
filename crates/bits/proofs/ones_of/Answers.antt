-- `bits::ones_of` meets its contract: the machine's count of a word's ones is `count` of its bits. Assumes nothing.
use native.Mathlib.Omega.{arith}
use Rattle.bits.proofs.Lowest.{ones_count}
use lib.Count.{ones-le}
use Rattle.bits.proofs.ones_of.Goals as goal

pub overflow_cast-result : goal.overflow_cast-result
overflow_cast-result c = omega (arith, ones-le 64 c.args.w (omega arith))

pub returns : goal.returns
returns c = ones_count 64 c.args.w (omega arith)
