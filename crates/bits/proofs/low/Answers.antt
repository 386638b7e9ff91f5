-- `bits::low` meets its contract: the trailing zeros end at the lowest set bit. Assumes nothing.
use native.Mathlib.Omega.{arith}
use lib.Count.{count_trailing_zeros}
use Rattle.bits.specs.Word.{Lowest}
use Rattle.bits.proofs.Lowest.{trailing_lowest}
use Rattle.bits.proofs.low.Goals as goal

pub overflow_cast-result : goal.overflow_cast-result
overflow_cast-result c =
    let l : Lowest c.args.w (count_trailing_zeros 64 c.args.w) = trailing_lowest c.requires (omega arith) in omega (arith, l.within)

pub returns : goal.returns
returns c = trailing_lowest c.requires (omega arith)
