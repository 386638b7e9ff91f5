-- `bits::rest` meets its contract: `w & (w - 1)` is the word with its lowest set bit cleared. Assumes nothing.
use Rattle.bits.proofs.Lowest.{cleared}
use Rattle.bits.proofs.rest.Goals as goal

pub returns : goal.returns
returns c = cleared c.requires
