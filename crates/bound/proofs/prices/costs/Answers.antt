-- `bound::prices::costs` meets its contract: the table is 65,535 all over before it is filled. Assumes nothing.
use Rattle.bound.proofs.PriceLaws.{filled_none}
use Rattle.bound.proofs.prices.costs.Goals as goal

pub fill-requires-clause-empty : goal.fill-requires-clause-empty
fill-requires-clause-empty c =
    filled_none _ _
