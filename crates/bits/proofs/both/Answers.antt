-- `bits::both` meets its contract: `bit_of_and`. Assumes nothing.
use Rattle.bits.proofs.Mask.{bit_of_and}
use Rattle.bits.proofs.both.Goals as goal

pub returns : goal.returns
returns c = bit_of_and c.args.a c.args.b
