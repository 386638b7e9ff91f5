use native.Mathlib.Omega.{arith}
use mathlib.Core.Path.{◌≡◌, refl}
use Rattle.bound.specs.Pass.{laid_all, fee}
use Rattle.bound.proofs.Laying.{laid_more}
use Rattle.bound.proofs.Walk.lay_all.Goals as goal

pub loop-x-init : goal.loop-x-init
loop-x-init c =
    record { edges = refl; lowest = refl }

pub loop-x-preserved : goal.loop-x-preserved
loop-x-preserved c =
    laid_more _ _ _ _ _ c.loop-x-test.true c.loop-x.invariant c.lay-low.ensures

pub returns : goal.returns
unfolding laid_all fee
returns c =
    let six : c.loop-x.x-index ≡ 6 = omega (arith, c.loop-x-test.false, c.loop-x.auto.x-index-end) in rw six at c.loop-x.invariant
