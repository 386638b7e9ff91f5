-- `bits::either` meets its contract: `bit_of_or`. Assumes nothing.
use Rattle.bits.proofs.Mask.{bit_of_or}
use Rattle.bits.proofs.either.Goals as goal

pub returns : goal.returns
returns c = bit_of_or c.args.a c.args.b
