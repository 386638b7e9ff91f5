-- `bound::lay::mark_entry` meets its contract: one word is stored with one bit more. Assumes nothing.
use Rattle.bound.proofs.Laying.{marked_entry}
use Rattle.bound.proofs.lay.mark_entry.Goals as goal

pub returns : goal.returns
returns c =
    marked_entry _ _ c.requires.0 c.requires.1 _ c.told-taken _ _ c.flipped.ensures c.either.ensures
