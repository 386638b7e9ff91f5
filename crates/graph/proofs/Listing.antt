-- Laws of `each` and `only`: what they hold, when two are equal, when they are empty, and when they ascend in an order.
-- By induction on the count, through the laws of `++`. Assumes nothing.
use mathlib.Core.Path.{◌≡◌, refl, ◌∙◌, ap, ap₂}
use mathlib.Core.Logic.{◌⊎◌, inl, inr}
use mathlib.Core.Bool.{Bool, true, false}
use mathlib.Core.List.Memᴰ
use mathlib.Core.List.{
  List,
  [],
  ◌∷◌,
  ◌++◌,
  Memᴰ,
}
use Prim.Native.Nat.{ℕ, zero, suc, ◌<◌}
use native.Mathlib.Nat.{eq-or-lt_of_le}
use native.Mathlib.Omega.{arith}
use lib.ListN.{length, get_or}
use Rattle.graph.specs.Each.{each, only}

-- below suc n: the last one, or below n
pub below_suc : {k n : ℕ} → k < suc n → (k ≡ n) ⊎ (k < n)
below_suc l = eq-or-lt_of_le (omega arith)

module _ {A : Type 0} where
  pub in_each : {x : A} (n : ℕ) (f : ℕ → List A) (k : ℕ) → k < n → Memᴰ x (f k) → Memᴰ x (each n f)
  unfolding each
  in_each zero f k l m = absurd (omega arith)
  in_each {x} (suc n) f k l m = go (in_each n f k) (below_suc l)
    where
      go :
          (k < n → Memᴰ x (f k) → Memᴰ x (each n f)) → (k ≡ n) ⊎ (k < n) →
          Memᴰ x (each n f ++ f n)
      go below (inl p) = Memᴰ.append_right (each n f) (rw p at m)
      go below (inr h) = Memᴰ.append_left (f n) (below h m)

  pub each_in : {x : A} (n : ℕ) (f : ℕ → List A) → Memᴰ x (each n f) → (k : ℕ) × (k < n) × Memᴰ x (f k)
  unfolding each
  each_in zero f m = absurd (Memᴰ.not-nil m)
  each_in {x} (suc n) f m = go (each_in n f) (Memᴰ.append_cases (each n f) m)
    where
      go :
          (Memᴰ x (each n f) → (k : ℕ) × (k < n) × Memᴰ x (f k)) →
          Memᴰ x (each n f) ⊎ Memᴰ x (f n) → (k : ℕ) × (k < suc n) × Memᴰ x (f k)
      go below (inl h) = let (k, l, h') = below h in (k, omega arith, h')
      go below (inr h) = (n, omega arith, h)

  pub in_only : {b : Bool} {x : A} → b ≡ true → Memᴰ x (only b x)
  unfolding only
  in_only {b} {x} p = rw p (Memᴰ.head refl)

  pub only_in : {x : A} (b : Bool) (y : A) → Memᴰ x (only b y) → (b ≡ true) × (x ≡ y)
  unfolding only
  only_in true y m = (refl, Memᴰ.eq_of_singleton m)
  only_in false y m = absurd (Memᴰ.not-nil m)

  pub only_empty : {b : Bool} (x : A) → b ≡ false → only b x ≡ []
  unfolding only
  only_empty x p = rw p refl

  -- of functions that agree below n
  pub each_same : (n : ℕ) (f g : ℕ → List A) → ((k : ℕ) → k < n → f k ≡ g k) → each n f ≡ each n g
  unfolding each
  each_same zero f g h = refl
  each_same (suc n) f g h = ap₂ ◌++◌ (each_same n f g (λ k l. h k (omega arith))) (h n (omega arith))

  pub append_empty : (xs ys : List A) → xs ++ ys ≡ [] → (xs ≡ []) × (ys ≡ [])
  append_empty [] ys p = (refl, p)
  append_empty (x ∷ xs) ys p = absurd (Memᴰ.not-nil (rw p at here))
    where
      here : Memᴰ x (x ∷ xs ++ ys)
      here = Memᴰ.head refl

  pub each_empty : (n : ℕ) (f : ℕ → List A) → ((k : ℕ) → k < n → f k ≡ []) → each n f ≡ []
  unfolding each
  each_empty zero f h = refl
  each_empty (suc n) f h = ap₂ ◌++◌ (each_empty n f (λ k l. h k (omega arith))) (h n (omega arith))

  pub empty_each : (n : ℕ) (f : ℕ → List A) → each n f ≡ [] → (k : ℕ) → k < n → f k ≡ []
  unfolding each
  empty_each zero f p k l = absurd (omega arith)
  empty_each (suc n) f p k l = go (empty_each n f (append_empty (each n f) (f n) p).0 k) (below_suc l)
    where
      go : (k < n → f k ≡ []) → (k ≡ n) ⊎ (k < n) → f k ≡ []
      go below (inl q) = ap f q ∙ (append_empty (each n f) (f n) p).1
      go below (inr h) = below h

  -- what stands at a place is in the list
  pub at_in : (xs : List A) (i : ℕ) (z : A) → i < length xs → Memᴰ (get_or xs i z) xs
  at_in [] i z l = absurd (omega arith)
  at_in (x ∷ xs) zero z l = Memᴰ.head refl
  at_in (x ∷ xs) (suc i) z l = Memᴰ.tail (at_in xs i z (omega arith))
