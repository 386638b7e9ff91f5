-- `memory::table::place` meets its contract: row of the smaller vertex, column of the greater. Assumes nothing.
use Rattle.std.proofs.Common.{arith}
use Rattle.repair.specs.Pair.{pair_of}
use Rattle.memory.proofs.table.place.Goals as goal

pub returns : goal.returns
unfolding pair_of
returns c = omega arith
