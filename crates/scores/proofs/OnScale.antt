-- Numbers on the scale: they fit their type, and two of them are at most 10,000 apart. Assumes nothing.
use mathlib.Core.Path.{◌≡◌}
use mathlib.Core.Logic.{◌⊎◌, inl, inr}
use mathlib.Core.Bool.{true, false}
use Prim.Native.Nat.{◌≤◌}
use native.Mathlib.Omega.{arith}
use lib.Dec.{eqb}
use lib.IntN.{ℤ}
use mir.Syntax.{w16}
use mir.Val.{SFits}
use Rattle.std.proofs.lemmas.Int.{ints}
use borrow.Author.Tests.{eqb-false}
use Rattle.bits.proofs.Truth.{which, pick_true, pick_false}
use Rattle.scores.specs.Scale.{on_scale, distance, price_of}

pub on_fits : (s : ℤ) → on_scale s ≡ true → SFits w16 s
on_fits s h = grind (arith, ints)

near : (s t : ℤ) → on_scale s ≡ true → on_scale t ≡ true → distance s t ≤ 10000
unfolding distance
near s t hs ht = grind (arith, ints)

pub price_bounds : (s t : ℤ) → on_scale s ≡ true → on_scale t ≡ true → (1 ≤ price_of s t) × (price_of s t ≤ 10000)
unfolding price_of
price_bounds s t hs ht = go (near s t hs ht) (which (eqb (distance s t) 0))
  where
    go : distance s t ≤ 10000 → (eqb (distance s t) 0 ≡ true) ⊎ (eqb (distance s t) 0 ≡ false) → (1 ≤ price_of s t) × (price_of s t ≤ 10000)
    go far (inl p) = let e : price_of s t ≡ 1 = pick_true 1 (distance s t) p in (omega arith, omega arith)
    go far (inr p) =
        let e : price_of s t ≡ distance s t = pick_false 1 (distance s t) p in
        let some = eqb-false (distance s t) 0 p in
        (omega arith, omega arith)
