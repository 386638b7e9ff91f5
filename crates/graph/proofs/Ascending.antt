-- Lists in which every element comes before all that stand behind it, in any order: appended, and made by `each`; the head
-- comes before the others, and what stands further in front before what stands behind. Assumes nothing.
use mathlib.Core.Path.{◌≡◌, refl}
use mathlib.Core.Logic.{◌⊎◌, inl, inr}
use mathlib.Core.Bool.{Bool, true, false}
use mathlib.Core.List.Memᴰ
use mathlib.Core.List.{
  List,
  [],
  ◌∷◌,
  ◌++◌,
  Memᴰ,
}
use Prim.Native.Nat.{ℕ, zero, suc, ◌<◌}
use native.Mathlib.Omega.{arith}
use lib.ListN.{length, get_or}
use Rattle.graph.specs.Each.{each, only}
use Rattle.graph.proofs.Listing.{each_in, at_in}

-- every element comes before all that stand behind it
pub data Ascending {A : Type 0} (R : A → A → Type 0) : List A → Type 0 where
  none : Ascending R []
  more : {x : A} {xs : List A} → ((y : A) → Memᴰ y xs → R x y) → Ascending R xs → Ascending R (x ∷ xs)

module _ {A : Type 0} {R : A → A → Type 0} where
  pub ascending_append :
      {xs ys : List A} → Ascending R xs → Ascending R ys →
      ((x y : A) → Memᴰ x xs → Memᴰ y ys → R x y) → Ascending R (xs ++ ys)
  ascending_append none s h = s
  ascending_append {ys} (more {x = x} {xs = xs} before r) s h =
      more
      (λ y m. ⊎_cases y (Memᴰ.append_cases xs m))
      (ascending_append r s (λ u v m m'. h u v (Memᴰ.tail m) m'))
    where
      ⊎_cases : (y : A) → Memᴰ y xs ⊎ Memᴰ y ys → R x y
      ⊎_cases y (inl m) = before y m
      ⊎_cases y (inr m) = h x y (Memᴰ.head refl) m

  pub each_ascending :
      (n : ℕ) (f : ℕ → List A) → ((k : ℕ) → k < n → Ascending R (f k)) →
      ((j k : ℕ) → j < k → k < n → (x y : A) → Memᴰ x (f j) → Memᴰ y (f k) → R x y) →
      Ascending R (each n f)
  unfolding each
  each_ascending zero f inner across = none
  each_ascending (suc n) f inner across =
      ascending_append
      (each_ascending n f (λ k l. inner k (omega arith)) (λ j k l l'. across j k l (omega arith)))
      (inner n (omega arith))
      (λ x y m m'. let (k, l, h) = each_in n f m in across k n l (omega arith) x y h m')

  pub only_ascending : (b : Bool) (x : A) → Ascending R (only b x)
  unfolding only
  only_ascending true x = more (λ y m. absurd (Memᴰ.not-nil m)) none
  only_ascending false x = none

  -- whatever is in the list is its head or comes after it
  pub head_leads : {x y : A} {xs : List A} → Ascending R (x ∷ xs) → Memᴰ y (x ∷ xs) → (y ≡ x) ⊎ R x y
  head_leads {x} {y} {xs} (more before r) m = go (Memᴰ.cases_cons m)
    where
      go : (y ≡ x) ⊎ Memᴰ y xs → (y ≡ x) ⊎ R x y
      go (inl p) = inl p
      go (inr h) = inr (before y h)

  -- what stands further in front comes before
  pub ascending_at :
      {xs : List A} → Ascending R xs → (i j : ℕ) (z : A) → i < j → j < length xs → R (get_or xs i z) (get_or xs j z)
  ascending_at none i j z l l' = absurd (omega arith)
  ascending_at (more before r) i zero z l l' = absurd (omega arith)
  ascending_at (more {xs = xs} before r) zero (suc j) z l l' = before (get_or xs j z) (at_in xs j z (omega arith))
  ascending_at (more before r) (suc i) (suc j) z l l' = ascending_at r i j z (omega arith) (omega arith)
