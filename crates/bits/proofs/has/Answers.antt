-- `bits::has` meets its contract: `bit_of`. Assumes nothing.
use Rattle.bits.proofs.Mask.{bit_of}
use Rattle.bits.proofs.has.Goals as goal

pub returns : goal.returns
returns c = bit_of c.args.w c.args.i
