use Rattle.std.proofs.Common.{arith, refl}
use Rattle.graph.proofs.WordLaws.{copied_start, copied_next, copied_end}
use Rattle.graph.proofs.rows.lay_flat.Goals as goal

pub loop-i-init : goal.loop-i-init
loop-i-init c = copied_start _ c.requires

pub loop-i-preserved : goal.loop-i-preserved
loop-i-preserved c =
    copied_next _ _ _ (omega arith) (omega arith) (omega arith) refl refl c.loop-i.invariant

pub returns : goal.returns
returns c =
    copied_end _ c.loop-i-test.false c.loop-i.invariant
