-- Counts of one number and of the others: a test that one number alone passes is counted once, so that a number that
-- passes counts one beside the others. By induction on the numbers looked at. Assumes nothing.
use mathlib.Core.Path.{◌≡◌, refl, sym, ◌∙◌, ap}
use mathlib.Core.Logic.{◌⊎◌, inl, inr}
use mathlib.Core.Bool.{Bool, true, false, not, ◌&&◌}
use Prim.Native.Nat.{ℕ, zero, suc, ◌+◌, ◌<◌}
use native.Mathlib.Nat.{eq-or-lt_of_le, le_of_suc-le-suc}
use native.Mathlib.Omega.{arith}
use lib.Dec.{eqb}
use borrow.Author.Tests.{eqb-true, eq-eqb}
use Rattle.bits.specs.Choice.{count}
use Rattle.bits.proofs.Truth.{fails, and_in, and_right, pick_true, pick_false}
use Rattle.bits.proofs.Counting.{one, count_suc, count_none, count_split}

-- a test that one number alone passes is counted once
pub count_alone : (k i : ℕ) {f : ℕ → Bool} → i < k → f i ≡ true → ((j : ℕ) → j < k → f j ≡ true → j ≡ i)
    → count f k ≡ 1
count_alone zero i low on only = absurd (omega arith)
count_alone (suc k) i {f} low on only =
    count_suc f k
    ∙ go (eq-or-lt_of_le (le_of_suc-le-suc low)) (λ l. count_alone k i l on (λ j h. only j (omega arith)))
  where
    other : (j : ℕ) → j < suc k → (j ≡ i → ⊥) → f j ≡ false
    other j h apart = fails (λ t. apart (only j h t))

    go : (i ≡ k) ⊎ (i < k) → (i < k → count f k ≡ 1) → one (f k) + count f k ≡ 1
    go (inl same) below =
        let here : one (f k) ≡ 1 = pick_true 1 0 (ap f (sym same) ∙ on) in
        let rest : count f k ≡ 0 = count_none k (λ j h. other j (omega arith) (λ eq. omega arith)) in omega arith
    go (inr l) below =
        let here : one (f k) ≡ 0 = pick_false 1 0 (other k (omega arith) (λ eq. omega arith)) in
        omega (arith, below l)

-- a number that passes counts one beside the others that pass
pub count_others : (f : ℕ → Bool) (k i : ℕ) → i < k → f i ≡ true
    → count f k ≡ suc (count (λ j. f j && not (eqb j i)) k)
count_others f k i low on =
    let here : count (λ j. f j && eqb j i) k ≡ 1 =
    count_alone k i low (and_in on (eq-eqb i i refl)) (λ j h t. eqb-true j i (and_right (f j) (eqb j i) t)) in
    omega (arith, count_split f (λ j. eqb j i) k)
