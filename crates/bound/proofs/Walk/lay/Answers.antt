-- `bound::Walk::lay` meets its contract: a pair that is not free is left, and one that is free is marked. Assumes nothing.
use mathlib.Core.Path.{◌∙◌}
use Rattle.bound.proofs.Laying.{dear, cheap, lay_none, lay_lower}
use Rattle.bound.proofs.Walk.lay.Goals as goal

pub returns-then-p-ge-FIXED : goal.returns-then-p-ge-FIXED
returns-then-p-ge-FIXED c =
    let p = c.cost_of-p.ensures in
    lay_none _ _ _ _ (dear _ _ _ p c.if-p-ge-FIXED.true)

pub returns : goal.returns
returns c =
    let p = c.cost_of-p.ensures in
    lay_lower _ _ _ c.mark.ensures _ (c.from.ensures ∙ p) (cheap _ _ _ p c.if-p-ge-FIXED.false) c.min.ensures
