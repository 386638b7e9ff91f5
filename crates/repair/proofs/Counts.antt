-- How many numbers pass a test: no more where fewer pass, and fewer where one passes no longer. Assumes nothing.
use mathlib.Core.Path.{◌≡◌, sym, ap, ◌∙◌}
use mathlib.Core.Logic.{◌⊎◌, inl, inr}
use mathlib.Core.Bool.{Bool, true, false}
use Prim.Native.Nat.{ℕ, zero, suc, ◌+◌, ◌≤◌, ◌<◌}
use native.Mathlib.Omega.{arith}
use Rattle.bits.specs.Choice.{count}
use Rattle.bits.proofs.Truth.{never, which, pick_true, pick_false}
use Rattle.graph.proofs.Listing.{below_suc}

pub count_more : (f : ℕ → Bool) (m : ℕ) → f m ≡ true → count f (suc m) ≡ 1 + count f m
unfolding count
count_more f m h = ap (λ t. t + count f m) (pick_true 1 0 h)

pub count_same : (f : ℕ → Bool) (m : ℕ) → f m ≡ false → count f (suc m) ≡ 0 + count f m
unfolding count
count_same f m h = ap (λ t. t + count f m) (pick_false 1 0 h)

pub count_most : (f : ℕ → Bool) (m : ℕ) → count f m ≤ m
count_most f zero = unfold count in omega arith
count_most f (suc m) = go (count_most f m) (which (f m))
  where
    go : count f m ≤ m → (f m ≡ true) ⊎ (f m ≡ false) → count f (suc m) ≤ suc m
    go ih (inl h) = omega (arith, count_more f m h)
    go ih (inr h) = omega (arith, count_same f m h)

module _ (f g : ℕ → Bool) (fewer : (x : ℕ) → f x ≡ true → g x ≡ true) where
  pub count_fewer : (m : ℕ) → count f m ≤ count g m
  count_fewer zero = unfold count in omega arith
  count_fewer (suc m) = go (count_fewer m) (which (f m)) (which (g m))
    where
      go :
          count f m ≤ count g m → (f m ≡ true) ⊎ (f m ≡ false) → (g m ≡ true) ⊎ (g m ≡ false) →
          count f (suc m) ≤ count g (suc m)
      go ih (inl s) (inl t) = omega (arith, count_more f m s, count_more g m t)
      go ih (inl s) (inr t) = never (fewer m s) t
      go ih (inr s) (inl t) = omega (arith, count_same f m s, count_more g m t)
      go ih (inr s) (inr t) = omega (arith, count_same f m s, count_same g m t)

  -- one number passes no longer
  pub count_lost : (x m : ℕ) → x < m → f x ≡ false → g x ≡ true → count f m < count g m
  count_lost x zero l off on = absurd (omega arith)
  count_lost x (suc m) l off on = go (count_lost x m) (below_suc l) (which (f m)) (which (g m))
    where
      go :
          (x < m → f x ≡ false → g x ≡ true → count f m < count g m) → (x ≡ m) ⊎ (x < m) →
          (f m ≡ true) ⊎ (f m ≡ false) → (g m ≡ true) ⊎ (g m ≡ false) → count f (suc m) < count g (suc m)
      go ih (inl e) (inl s) t = never s (ap f (sym e) ∙ off)
      go ih (inl e) (inr s) (inl t) = omega (arith, count_fewer m, count_same f m s, count_more g m t)
      go ih (inl e) (inr s) (inr t) = never (ap g (sym e) ∙ on) t
      go ih (inr k) (inl s) (inl t) = omega (arith, ih k off on, count_more f m s, count_more g m t)
      go ih (inr k) (inl s) (inr t) = never (fewer m s) t
      go ih (inr k) (inr s) (inl t) = omega (arith, ih k off on, count_same f m s, count_more g m t)
      go ih (inr k) (inr s) (inr t) = omega (arith, ih k off on, count_same f m s, count_same g m t)
