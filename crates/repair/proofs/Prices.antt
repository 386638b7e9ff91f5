-- Prices of parts of a list: a part that passes more costs no less, and at least what it passes alone. Assumes nothing.
use mathlib.Core.Path.{◌≡◌, refl, sym, ap, ◌∙◌}
use mathlib.Core.Logic.{◌⊎◌, inl, inr}
use mathlib.Core.Bool.{Bool, true, false}
use mathlib.Core.List.{List, [], ◌∷◌}
use Prim.Native.Nat.{ℕ, ◌+◌, ◌≤◌, min}
use native.Mathlib.Omega.{arith}
use Rattle.bits.proofs.Truth.{never, which}
use Rattle.repair.specs.Pair.{member}
use Rattle.repair.specs.Better.{price}
use Rattle.repair.specs.Packing.{those, lowest}
use Rattle.repair.proofs.Sets.{member_none, member_out, those_keep, those_drop}

module _ (toll : ℕ → ℕ) where
  pub price_cons : (x : ℕ) (xs : List ℕ) → price toll (x ∷ xs) ≡ toll x + price toll xs
  unfolding price
  price_cons x xs = refl

  -- the price of a list's passing numbers, its first taken apart
  pub price_keep :
      (f : ℕ → Bool) (x : ℕ) (xs : List ℕ) → f x ≡ true → price toll (those f (x ∷ xs)) ≡ toll x + price toll (those f xs)
  price_keep f x xs h = ap (price toll) (those_keep f x xs h) ∙ price_cons x (those f xs)

  pub price_drop :
      (f : ℕ → Bool) (x : ℕ) (xs : List ℕ) → f x ≡ false → price toll (those f (x ∷ xs)) ≡ price toll (those f xs)
  price_drop f x xs h = ap (price toll) (those_drop f x xs h)

  module _ (f g : ℕ → Bool) (more : (x : ℕ) → f x ≡ true → g x ≡ true) where
    pub price_more : (xs : List ℕ) → price toll (those f xs) ≤ price toll (those g xs)
    price_more [] = unfold those in omega arith
    price_more (x ∷ xs) = go (price_more xs) (which (f x)) (which (g x))
      where
        go :
            price toll (those f xs) ≤ price toll (those g xs) → (f x ≡ true) ⊎ (f x ≡ false) → (g x ≡ true) ⊎ (g x ≡ false) →
            price toll (those f (x ∷ xs)) ≤ price toll (those g (x ∷ xs))
        go ih (inl t) (inl u) = omega (arith, price_keep f x xs t, price_keep g x xs u)
        go ih (inl t) (inr u) = never (more x t) u
        go ih (inr t) (inl u) = omega (arith, price_drop f x xs t, price_keep g x xs u)
        go ih (inr t) (inr u) = omega (arith, price_drop f x xs t, price_drop g x xs u)

    -- a number that only the second part passes
    pub price_gap :
        (z : ℕ) (xs : List ℕ) → member z xs ≡ true → f z ≡ false → g z ≡ true →
        toll z + price toll (those f xs) ≤ price toll (those g xs)
    price_gap z [] m lacks has = absurd (member_none z m)
    price_gap z (x ∷ xs) m lacks has = go (price_gap z xs) (member_out z x xs m) (which (f x)) (which (g x))
      where
        go :
            (member z xs ≡ true → f z ≡ false → g z ≡ true → toll z + price toll (those f xs) ≤ price toll (those g xs)) →
            (z ≡ x) ⊎ (member z xs ≡ true) → (f x ≡ true) ⊎ (f x ≡ false) → (g x ≡ true) ⊎ (g x ≡ false) →
            toll z + price toll (those f (x ∷ xs)) ≤ price toll (those g (x ∷ xs))
        go ih (inl e) (inl t) u = never (ap f e ∙ t) lacks
        go ih (inl e) (inr t) (inl u) =
            omega (arith, ap toll e, price_more xs, price_drop f x xs t, price_keep g x xs u)
        go ih (inl e) (inr t) (inr u) = never (ap g (sym e) ∙ has) u
        go ih (inr k) (inl t) (inl u) = omega (arith, ih k lacks has, price_keep f x xs t, price_keep g x xs u)
        go ih (inr k) (inl t) (inr u) = never (more x t) u
        go ih (inr k) (inr t) (inl u) = omega (arith, ih k lacks has, price_drop f x xs t, price_keep g x xs u)
        go ih (inr k) (inr t) (inr u) = omega (arith, ih k lacks has, price_drop f x xs t, price_drop g x xs u)

  -- a part costs no more than the whole
  pub price_part : (f : ℕ → Bool) (xs : List ℕ) → price toll (those f xs) ≤ price toll xs
  price_part f [] = unfold those in omega arith
  price_part f (x ∷ xs) = go (price_part f xs) (which (f x))
    where
      go : price toll (those f xs) ≤ price toll xs → (f x ≡ true) ⊎ (f x ≡ false) →
          price toll (those f (x ∷ xs)) ≤ price toll (x ∷ xs)
      go ih (inl t) = omega (arith, price_cons x xs, price_keep f x xs t)
      go ih (inr t) = omega (arith, price_cons x xs, price_drop f x xs t)

  pub lowest_more : (x y : ℕ) (ys : List ℕ) → lowest toll (x ∷ y ∷ ys) ≡ min (toll x) (lowest toll (y ∷ ys))
  unfolding lowest
  lowest_more x y ys = refl

  -- the lowest price is at most each
  pub lowest_least : (x : ℕ) (xs : List ℕ) → member x xs ≡ true → lowest toll xs ≤ toll x
  lowest_least x [] m = absurd (member_none x m)
  lowest_least x (y ∷ []) m = go (member_out x y [] m)
    where
      go : (x ≡ y) ⊎ (member x [] ≡ true) → lowest toll (y ∷ []) ≤ toll x
      go (inl e) = unfold lowest in omega (arith, ap toll e)
      go (inr k) = absurd (member_none x k)
  lowest_least x (y ∷ z ∷ zs) m = go (lowest_least x (z ∷ zs)) (member_out x y (z ∷ zs) m)
    where
      go :
          (member x (z ∷ zs) ≡ true → lowest toll (z ∷ zs) ≤ toll x) → (x ≡ y) ⊎ (member x (z ∷ zs) ≡ true) →
          lowest toll (y ∷ z ∷ zs) ≤ toll x
      go ih (inl e) = omega (arith, ap toll e, lowest_more y z zs)
      go ih (inr k) = omega (arith, ih k, lowest_more y z zs)
