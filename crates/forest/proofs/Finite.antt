-- Numbers below a bound: one more of them, two that are equal or not, and a search that finds one that passes a test or
-- shows that none does. Assumes nothing.
use mathlib.Core.Path.{◌≡◌, sym, subst}
use mathlib.Core.Logic.{◌⊎◌, inl, inr, ◌≢◌}
use mathlib.Core.Bool.{Bool, true, false}
use Prim.Native.Nat.{ℕ, zero, suc, ◌<◌}
use native.Mathlib.Nat.{eq-or-lt_of_le, le_of_suc-le-suc}
use native.Mathlib.Omega.{arith}
use lib.Dec.{eqb}
use borrow.Author.Tests.{eqb-true, eqb-false}
use Rattle.bits.proofs.Truth.{which}

-- what holds of k and of every number below k holds below k + 1
pub below_suc : {k : ℕ} (P : ℕ → Type 0) → P k → ((u : ℕ) → u < k → P u) → (u : ℕ) → u < suc k → P u
below_suc {k} P here below u h = go (eq-or-lt_of_le (le_of_suc-le-suc h))
  where
    go : (u ≡ k) ⊎ (u < k) → P u
    go (inl s) = subst P (sym s) here
    go (inr l) = below u l

pub equal_or_not : (u v : ℕ) → (u ≡ v) ⊎ (u ≢ v)
equal_or_not u v = go (which (eqb u v))
  where
    go : (eqb u v ≡ true) ⊎ (eqb u v ≡ false) → (u ≡ v) ⊎ (u ≢ v)
    go (inl t) = inl (eqb-true u v t)
    go (inr f) = inr (eqb-false u v f)

-- some number below k passes the test, or none does
pub look : (test : ℕ → Bool) (k : ℕ) → ((u : ℕ) × (u < k) × (test u ≡ true)) ⊎ ((u : ℕ) → u < k → test u ≡ false)
look test zero = inr (λ u h. absurd (omega arith))
look test (suc k) = go (which (test k)) (look test k)
  where
    go : (test k ≡ true) ⊎ (test k ≡ false)
        → ((u : ℕ) × (u < k) × (test u ≡ true)) ⊎ ((u : ℕ) → u < k → test u ≡ false)
        → ((u : ℕ) × (u < suc k) × (test u ≡ true)) ⊎ ((u : ℕ) → u < suc k → test u ≡ false)
    go (inl on) below = inl (k, (omega arith), on)
    go (inr off) (inl some) = inl (some.0, (let l : some.0 < k = some.1 in omega arith), some.2)
    go (inr off) (inr none) = inr (below_suc (λ u. test u ≡ false) off none)
