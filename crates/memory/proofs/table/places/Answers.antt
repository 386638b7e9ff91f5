-- `memory::table::places` meets its contract: six places of pairs. Assumes nothing.
use Rattle.repair.specs.Packing.{pairs_of}
use Rattle.memory.proofs.table.places.Goals as goal

pub returns : goal.returns
unfolding pairs_of
returns c =
    cc
