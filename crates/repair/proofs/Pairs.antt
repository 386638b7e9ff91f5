-- How many pairs n vertices have: twice their number and n is n x n, so at most 8,128 for 128 vertices. Counted row by row:
-- row i has n - 1 - i. Assumes nothing.
use mathlib.Core.Path.{◌≡◌, refl, ap, ap₂, ◌∙◌}
use mathlib.Core.Logic.{◌⊎◌, inl, inr}
use mathlib.Core.Bool.{Bool, true, false, ◌&&◌}
use Prim.Native.Nat.{ℕ, zero, suc, ◌+◌, ◌*◌, ◌-◌, ◌/◌, ◌%◌, ◌≤◌, ◌<◌}
use native.Mathlib.Nat.{
  add-zero,
  add-suc,
  suc-mul,
  mul-suc,
  zero-mul,
  mul-add-div_right,
  mul-add-mod_self_right,
  div-eq_of_lt,
  mod-eq_of_lt,
  mul-le-mul_right,
}
use native.Mathlib.Omega.{arith}
use lib.Dec.{ltb}
use borrow.Author.Tests.{ltb-true, ltb-false, lt-ltb}
use Rattle.bits.specs.Choice.{pick, count}
use Rattle.bits.proofs.Truth.{which}
use Rattle.repair.specs.Pair.{is_pair}
use Rattle.repair.proofs.Counts.{count_more, count_same}

-- a count in two parts
count_parts : (f : ℕ → Bool) (a b : ℕ) → count f (a + b) ≡ count f a + count (λ j. f (a + j)) b
unfolding count
count_parts f a zero = ap (count f) (add-zero a) ∙ omega arith
count_parts f a (suc b) =
    ap (count f) (add-suc a b) ∙ ap (λ t. pick (f (a + b)) 1 0 + t) (count_parts f a b) ∙ omega arith

count_alike : (f g : ℕ → Bool) (b : ℕ) → ((j : ℕ) → j < b → f j ≡ g j) → count f b ≡ count g b
unfolding count
count_alike f g zero h = refl
count_alike f g (suc b) h =
    ap₂ (λ t u. pick t 1 0 + u) (h b (omega arith)) (count_alike f g b (λ j l. h j (omega arith)))

count_above : (i b : ℕ) → count (ltb i) b ≡ b - suc i
count_above i zero = unfold count in omega arith
count_above i (suc b) = go (count_above i b) (which (ltb i b))
  where
    go : count (ltb i) b ≡ b - suc i → (ltb i b ≡ true) ⊎ (ltb i b ≡ false) → count (ltb i) (suc b) ≡ suc b - suc i
    go ih (inl h) = omega (arith, ltb-true, count_more (ltb i) b h)
    go ih (inr h) = omega (arith, ltb-false, count_same (ltb i) b h)

module _ (n : ℕ) where
  -- row i: the pairs (i, j) with i < j
  row_pairs : (i j : ℕ) → i < n → j < n → is_pair n (i * n + j) ≡ ltb i j
  unfolding is_pair
  row_pairs i j li lj = ap₂ ◌&&◌ small (ap₂ ltb low high)
    where
      small : ltb (i * n + j) (n * n) ≡ true
      small = lt-ltb (i * n + j) (n * n) (omega (arith, mul-le-mul_right {m = suc i} {n = n} n li, suc-mul i n))

      low : (i * n + j) / n ≡ i
      low = mul-add-div_right {m = n} (omega arith) i j ∙ ap (λ t. i + t) (div-eq_of_lt lj) ∙ omega arith

      high : (i * n + j) % n ≡ j
      high = mul-add-mod_self_right i n j ∙ mod-eq_of_lt lj

  rows : (i : ℕ) → i ≤ n → 2 * count (is_pair n) (i * n) + i + i * i ≡ 2 * (i * n)
  rows zero h =
      let bare : count (is_pair n) (0 * n) ≡ 0 = ap (count (is_pair n)) (zero-mul n) ∙ (unfold count in refl) in
      omega (arith, zero-mul n)
  rows (suc i) h =
      let step : count (is_pair n) (suc i * n) ≡ count (is_pair n) (i * n) + (n - suc i) =
      ap (count (is_pair n)) (suc-mul i n) ∙ count_parts (is_pair n) (i * n) n ∙
      ap (λ t. count (is_pair n) (i * n) + t)
      (count_alike (λ j. is_pair n (i * n + j)) (ltb i) n (λ j l. row_pairs i j h l) ∙ count_above i n)
      in
      omega (arith, rows i (omega arith), suc-mul i n, suc-mul i (suc i), mul-suc i i)

  -- twice the number of pairs, and n, is n x n
  pub pairs_counted : 2 * count (is_pair n) (n * n) + n ≡ n * n
  pairs_counted = omega (arith, rows n (omega arith))

  -- "8,128 pairs"
  pub pairs_most : n ≤ 128 → count (is_pair n) (n * n) ≤ 8128
  pairs_most h = omega (arith, pairs_counted, mul-le-mul_right {m = n} {n = 128} n h)
