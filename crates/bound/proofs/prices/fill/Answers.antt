use Rattle.bound.proofs.PriceLaws.{row_copied, filled_end}
use Rattle.bound.proofs.prices.fill.Goals as goal

pub loop-i-init : goal.loop-i-init
loop-i-init c =
    c.requires.empty

pub loop-i-preserved : goal.loop-i-preserved
loop-i-preserved c =
    row_copied _ _ _ _ _ c.requires.n_bound c.loop-i-test.true c.requires.prices_len c.copy_from_slice.ensures.after c.loop-i.invariant

pub returns : goal.returns
returns c =
    filled_end _ _ c.loop-i-test.false c.loop-i.invariant
