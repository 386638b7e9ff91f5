-- `bits::flipped` meets its contract: `bit_flipped` at 64 digits. Assumes nothing.
use Rattle.bits.proofs.Mask.{bit_flipped}
use Rattle.bits.proofs.flipped.Goals as goal

pub returns : goal.returns
returns c j = bit_flipped 64 c.args.w c.args.i j c.requires
