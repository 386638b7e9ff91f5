-- The order of the pairs: how many stand before a row in closed form, that places rise with the order, and that there are
-- n(n-1)/2. By induction on the row. Assumes nothing.
use mathlib.Core.Path.{◌≡◌, sym, ◌∙◌, ap}
use mathlib.Core.Logic.{◌⊎◌, inl, inr, ◌≢◌}
use Prim.Native.Nat.{ℕ, zero, suc, ◌+◌, ◌*◌, ◌-◌, ◌/◌, ◌≤◌, ◌<◌}
use native.Mathlib.Nat.{suc-mul, mul-suc, zero-mul, mul-le-mul}
use native.Mathlib.Omega.{arith}
use borrow.Author.Tests.{lt-ltb, le-ltb}
use Rattle.std.proofs.Common.{min}
use Rattle.std.specs.Int.{abs_diff}
use Rattle.bits.proofs.Truth.{below, pick_true, pick_false}
use Rattle.scores.specs.Scale.{half, earlier, place, spot}

-- twice the pairs before row i
twice : (n i : ℕ) → i ≤ n → earlier n i * 2 ≡ i * (2 * n - i - 1)
unfolding earlier
twice n zero h = sym (zero-mul (2 * n - 0 - 1))
twice n (suc k) h =
    let m : ℕ = 2 * n - suc k - 1 in
    let e : 2 * n - k - 1 ≡ suc m = omega arith in
    let back : earlier n k * 2 ≡ k * suc m = twice n k (omega arith) ∙ ap (λ x. k * x) e in
    omega (arith, suc-mul k m, mul-suc k m)

pub earlier_is : (n i : ℕ) → i ≤ n → i * (2 * n - i - 1) / 2 ≡ earlier n i
earlier_is n i h = omega (arith, twice n i h)

pub earlier_all : (n : ℕ) → earlier n n ≡ half n
earlier_all n = sym (ap (λ (x : ℕ). n * x / 2) (omega arith) ∙ earlier_is n n (omega arith))

pub earlier_mono : (n i k : ℕ) → i ≤ k → earlier n i ≤ earlier n k
unfolding earlier
earlier_mono n i zero h = let e : i ≡ 0 = omega arith in rw e (omega arith)
earlier_mono n i (suc k) h = go (earlier_mono n i k) (below i (suc k))
  where
    go : (i ≤ k → earlier n i ≤ earlier n k) → (i < suc k) ⊎ (suc k ≤ i) → earlier n i ≤ earlier n k + (n - suc k)
    go lower (inl p) = omega (arith, lower (omega arith))
    go lower (inr p) = let e : i ≡ suc k = omega arith in rw e (omega arith)

-- the pairs of row i stand between the rows, and every pair before n(n-1)/2
module _ (n : ℕ) {i j : ℕ} (up : i < j) (in_row : j < n) where
  pub place_row : (earlier n i ≤ place n i j) × (place n i j < earlier n (suc i))
  unfolding place earlier
  place_row = (omega arith, omega arith)

  pub place_below : place n i j < half n
  place_below = omega (arith, place_row, earlier_mono n (suc i) n (omega arith), earlier_all n)

  -- in a row they follow one another, and a later row stands behind an earlier one
  pub place_later_column : {k : ℕ} → j < k → place n i j < place n i k
  unfolding place
  place_later_column h = omega arith

  pub place_later_row : (a b : ℕ) → i < a → place n i j < earlier n a + b
  place_later_row a b h = omega (arith, place_row, earlier_mono n (suc i) a h)

-- at most 8,128 pairs
pub half_small : (n : ℕ) → n ≤ 128 → half n ≤ 8128
half_small n h =
    let k : n - 1 ≤ 127 = omega arith in
    let m : n * (n - 1) ≤ 128 * 127 = mul-le-mul h k in
    omega arith

-- the place of a pair from that of the first pair of its row
pub spot_after :
    (n i j : ℕ) {e : ℕ} → i < j → j < n → e ≡ earlier n i → (e + (j - i - 1) ≡ spot n i j) × (spot n i j < half n)
unfolding spot place
spot_after n i j {e} p in_j before =
    let at : spot n i j ≡ earlier n i + (j - suc i) = pick_true (place n i j) (place n j i) (lt-ltb i j p) in
    (omega arith, rw at (place_below n p in_j))

-- the place of a pair either way round, as the code computes it from the lesser of the two
module _ (n i j : ℕ) (in-i : i < n) (in-j : j < n) (apart : i ≢ j) where
  pub spot_at : {a e : ℕ} → a ≡ min i j → e ≡ earlier n a → (e + abs_diff i j - 1 ≡ spot n i j) × (spot n i j < half n)
  unfolding spot place
  spot_at {a} {e} least before = go (below i j)
    where
      go : (i < j) ⊎ (j ≤ i) → (e + abs_diff i j - 1 ≡ spot n i j) × (spot n i j < half n)
      go (inl p) =
          let low : a ≡ i = omega arith in
          let at = spot_after n i j p in-j (before ∙ ap (earlier n) low) in
          (omega (arith, at.0), at.1)
      go (inr p) =
          let at : spot n i j ≡ earlier n j + (i - suc j) = pick_false (place n i j) (place n j i) (le-ltb i j p) in
          let low : a ≡ j = omega arith in
          let down : j < i = omega arith in
          let first : earlier n a ≡ earlier n j = ap (earlier n) low in
          (omega arith, rw at (place_below n down in-i))

-- n(n-1) is even
pub half_twice : (n : ℕ) → 2 * half n ≡ n * (n - 1)
half_twice n =
    let e : 2 * n - n - 1 ≡ n - 1 = omega arith in
    let t : earlier n n * 2 ≡ n * (n - 1) = twice n n (omega arith) ∙ ap (λ (x : ℕ). n * x) e in
    omega (arith, earlier_all n)

-- every place is that of a pair
row_of : (n k i : ℕ) → k < earlier n i → (a : ℕ) × (a < i) × (earlier n a ≤ k) × (k < earlier n (suc a))
unfolding earlier
row_of n k zero h = absurd (omega arith)
row_of n k (suc i) h = go (row_of n k i) (below k (earlier n i))
  where
    go :
        (k < earlier n i → (a : ℕ) × (a < i) × (earlier n a ≤ k) × (k < earlier n (suc a))) →
        (k < earlier n i) ⊎ (earlier n i ≤ k) → (a : ℕ) × (a < suc i) × (earlier n a ≤ k) × (k < earlier n (suc a))
    go lower (inl p) = let (a, l, u, v) = lower p in (a, omega arith, u, v)
    go lower (inr p) = (i, omega arith, p, h)

pub place_onto : (n k : ℕ) → k < half n → (i : ℕ) × (j : ℕ) × (i < j) × (j < n) × (place n i j ≡ k)
unfolding place earlier
place_onto n k h =
    let (i, l, u, v) = row_of n k n (omega (arith, earlier_all n)) in
    (i, suc i + (k - earlier n i), omega arith, omega arith, omega arith)
