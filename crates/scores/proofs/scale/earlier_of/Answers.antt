-- `earlier_of` meets its contract: the closed form of the pairs before a row. Assumes nothing.
use native.Mathlib.Omega.{arith}
use Rattle.scores.proofs.Places.{earlier_is}
use Rattle.scores.proofs.scale.earlier_of.Goals as goal

pub returns : goal.returns
returns c =
    earlier_is c.args.n c.args.i (omega arith)
