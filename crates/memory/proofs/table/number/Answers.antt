-- `memory::table::number` meets its contract: the row times n fits. Assumes nothing.
use Rattle.std.proofs.Common.{refl}
use Rattle.memory.specs.Table.{number_at}
use Rattle.memory.proofs.table.number.Goals as goal

pub returns : goal.returns
unfolding number_at
returns c = refl
