-- The price of a score by its distance from the threshold, and a number of 16 bits through its bits and back. Assumes nothing.
use mathlib.Core.Path.{◌≡◌, refl, sym, ◌∙◌}
use Prim.Native.Nat.{ℕ, zero, suc, ◌<◌}
use native.Mathlib.Omega.{arith}
use lib.Dec.{eqb}
use lib.IntN.{ℤ}
use lib.Signed.{mag}
use Rattle.std.proofs.Common.{max}
use mir.Syntax.{w16}
use mir.Val.{of_z, to_z}
use mir.ValLaws.{to_z-of_z}
use borrow.Author.Tests.{ne_eqb}
use Rattle.bits.specs.Choice.{pick}
use Rattle.bits.proofs.Truth.{pick_false}
use Rattle.scores.specs.Scale.{distance, price_of}

-- the price, by the distance
pub price_is : (s t : ℤ) → max (distance s t) 1 ≡ price_of s t
unfolding price_of
price_is s t = go (distance s t)
  where
    go : (d : ℕ) → max d 1 ≡ pick (eqb d 0) 1 d
    go zero = refl
    go (suc d) =
        let e : max (suc d) 1 ≡ suc d = omega arith in
        e ∙ sym (pick_false 1 (suc d) (ne_eqb (suc d) 0 (λ p. omega arith)))

-- a number of the type, through its bits and back
pub back : (z : ℤ) → mag z < 32768 → to_z w16 (of_z w16 z) ≡ z
back z h = to_z-of_z w16 z (record { sfits = h })
