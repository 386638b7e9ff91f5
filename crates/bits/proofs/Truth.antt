-- Small laws of tests that every floor uses: a test with its equation, `&&`, `||` and `not` taken apart and put together.
-- Two numbers compared, with the fact of each case.
-- Tests are equations with `true` or `false`. Assumes nothing.
use mathlib.Core.Path.{◌≡◌, refl, sym, ◌∙◌, ap}
use mathlib.Core.Logic.{◌⊎◌, inl, inr, ◌≢◌}
use mathlib.Core.Bool.{Bool, true, false, not, ◌&&◌, ◌||◌}
use Prim.Native.Nat.{ℕ, ◌≤◌, ◌<◌}
use native.Mathlib.Omega.{arith}
use borrow.Author.Tests.{ltb-true, ltb-false, eqb-true, eqb-false}
use lib.Dec.{ltb, eqb}
use Rattle.bits.specs.Choice.{pick}

-- a test does not pass and fail
pub never : {A : Type 0} {b : Bool} → b ≡ true → b ≡ false → A
never {A} {b} p q = absurd (let z : ◌≡◌ {A = ℕ} 0 1 = cc in omega arith)

-- a test passes or fails, with its equation
pub which : (b : Bool) → (b ≡ true) ⊎ (b ≡ false)
which true = inl refl
which false = inr refl

-- what does not pass fails, and what does not fail passes
pub fails : {b : Bool} → (b ≡ true → ⊥) → b ≡ false
fails {b} h = go b h
  where
    go : (t : Bool) → (t ≡ true → ⊥) → t ≡ false
    go true k = absurd (k refl)
    go false k = refl

pub passes : {b : Bool} → (b ≡ false → ⊥) → b ≡ true
passes {b} h = go b h
  where
    go : (t : Bool) → (t ≡ false → ⊥) → t ≡ true
    go true k = refl
    go false k = absurd (k refl)

-- two tests that pass together are equal
pub same : {a b : Bool} → (a ≡ true → b ≡ true) → (b ≡ true → a ≡ true) → a ≡ b
same {a} {b} = go a b
  where
    go : (s t : Bool) → (s ≡ true → t ≡ true) → (t ≡ true → s ≡ true) → s ≡ t
    go true true f g = refl
    go true false f g = sym (f refl)
    go false true f g = g refl
    go false false f g = refl

pub and_in : {a b : Bool} → a ≡ true → b ≡ true → (a && b) ≡ true
and_in {a} {b} p q = ap (λ x. x && b) p ∙ q

pub and_left : (a b : Bool) → (a && b) ≡ true → a ≡ true
and_left true b h = refl
and_left false b h = h

pub and_right : (a b : Bool) → (a && b) ≡ true → b ≡ true
and_right true b h = h
and_right false b h = never h refl

pub and_out : (a b : Bool) → (a && b) ≡ false → (a ≡ false) ⊎ (b ≡ false)
and_out true b h = inr h
and_out false b h = inl refl

pub and_off_left : {a : Bool} (b : Bool) → a ≡ false → (a && b) ≡ false
and_off_left b p = ap (λ x. x && b) p

pub and_off_right : (a : Bool) {b : Bool} → b ≡ false → (a && b) ≡ false
and_off_right true q = q
and_off_right false q = refl

-- a part that passes may be left out
pub and_on : (a : Bool) {b : Bool} → b ≡ true → (a && b) ≡ a
and_on true q = q
and_on false q = refl

pub or_left : {a : Bool} (b : Bool) → a ≡ true → (a || b) ≡ true
or_left b p = ap (λ x. x || b) p

pub or_right : (a : Bool) {b : Bool} → b ≡ true → (a || b) ≡ true
or_right true q = refl
or_right false q = q

pub or_out : (a b : Bool) → (a || b) ≡ true → (a ≡ true) ⊎ (b ≡ true)
or_out true b h = inl refl
or_out false b h = inr h

pub or_off : {a b : Bool} → a ≡ false → b ≡ false → (a || b) ≡ false
or_off {a} {b} p q = ap (λ x. x || b) p ∙ q

pub or_off_left : (a b : Bool) → (a || b) ≡ false → a ≡ false
or_off_left true b h = h
or_off_left false b h = refl

pub or_off_right : (a b : Bool) → (a || b) ≡ false → b ≡ false
or_off_right true b h = never refl h
or_off_right false b h = h

pub not_in : {b : Bool} → b ≡ false → not b ≡ true
not_in p = ap not p

pub not_off : {b : Bool} → b ≡ true → not b ≡ false
not_off p = ap not p

-- a choice, once its test is known
pub pick_true {ℓ} : {A : Type ℓ} {b : Bool} (x y : A) → b ≡ true → pick b x y ≡ x
pick_true x y p = ap (λ t. pick t x y) p

pub pick_false {ℓ} : {A : Type ℓ} {b : Bool} (x y : A) → b ≡ false → pick b x y ≡ y
pick_false x y p = ap (λ t. pick t x y) p

-- two numbers compared
pub below : (a b : ℕ) → (a < b) ⊎ (b ≤ a)
below a b = go (which (ltb a b))
  where
    go : (ltb a b ≡ true) ⊎ (ltb a b ≡ false) → (a < b) ⊎ (b ≤ a)
    go (inl e) = inl (ltb-true a b e)
    go (inr e) = inr (ltb-false a b e)

pub equal : (a b : ℕ) → (a ≡ b) ⊎ (a ≢ b)
equal a b = go (which (eqb a b))
  where
    go : (eqb a b ≡ true) ⊎ (eqb a b ≡ false) → (a ≡ b) ⊎ (a ≢ b)
    go (inl e) = inl (eqb-true a b e)
    go (inr e) = inr (eqb-false a b e)
