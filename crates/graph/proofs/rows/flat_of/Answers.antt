-- `graph::rows::flat_of` meets its contract: zeros are words before the rows are laid. Assumes nothing.
use Rattle.graph.proofs.WordLaws.{copied_none}
use Rattle.graph.proofs.rows.flat_of.Goals as goal

pub lay_flat-requires : goal.lay_flat-requires
lay_flat-requires c = (copied_none c.args.rows).shape
