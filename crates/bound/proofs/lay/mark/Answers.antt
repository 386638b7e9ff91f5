-- `bound::lay::mark` meets its contract: the entry and its mirror. Assumes nothing.
use Rattle.bound.proofs.Laying.{marked_both}
use Rattle.bound.proofs.lay.mark.Goals as goal

pub returns : goal.returns
returns c =
    marked_both _ _ _ _ c.mark_entry.ensures c.mark_entry-2.ensures
