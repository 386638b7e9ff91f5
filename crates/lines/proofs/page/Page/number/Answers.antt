-- `number` meets its contract: the library's digits are the decimal's. Assumes nothing.
use native.Mathlib.Omega.{arith}
use mathlib.Core.Path.{◌∙◌}
use Rattle.lines.proofs.Behind.{room_as, put_as}
use Rattle.lines.proofs.Decimals.{decimal_told}
use Rattle.lines.proofs.page.Page.number.Goals as goal

pub put-requires : goal.put-requires
put-requires c =
    room_as c.args.self.now
    (c.as_bytes.ensures.value ∙ c.format.ensures.text ∙ decimal_told c.args.x (omega (arith, c.ranges.x.fits))) c.requires

pub returns : goal.returns
returns c =
    put_as c.args.self.now (c.as_bytes.ensures.value ∙ c.format.ensures.text ∙ decimal_told c.args.x (omega (arith, c.ranges.x.fits)))
    c.put.ensures
