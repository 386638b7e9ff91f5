-- Graphs that are cut to the vertices below n, and what settles them: the words of a row, rows, and words laid flat are
-- equal where they read the same, bit by bit. Assumes nothing.
use mathlib.Core.Path.{◌≡◌, sym, ◌∙◌, ap, fun_ext}
use mathlib.Core.Logic.{◌⊎◌, inl, inr}
use mathlib.Core.Bool.{Bool, false}
use mathlib.Core.List.{List, []}
use Prim.Native.Nat.{ℕ, ◌+◌, ◌*◌, ◌/◌, ◌%◌, ◌^◌, ◌≤◌, ◌<◌}
use native.Mathlib.Omega.{arith}
use lib.ListN.{length, get_or}
use lib.Seq.{ext_get_or}
use lib.Dec.{ltb}
use borrow.Author.Tests.{lt-ltb, le-ltb}
use Rattle.bits.specs.Bit.{bit}
use Rattle.bits.proofs.Truth.{below, and_off_left, and_off_right}
use Rattle.bits.proofs.Digit.{bit_ext}
use Rattle.graph.specs.Graph.{within, row_edge, word_edge}
use Rattle.graph.specs.Rows.{AreRows, AreWords}

module _ (n : ℕ) (e : ℕ → ℕ → Bool) where
  pub within_in : {i j : ℕ} → i < n → j < n → within n e i j ≡ e i j
  within_in {i} {j} hi hj = simp (lt-ltb i n hi, lt-ltb j n hj)

  pub within_row : {i : ℕ} (j : ℕ) → n ≤ i → within n e i j ≡ false
  within_row {i} j h = simp (le-ltb i n h)

  pub within_column : (i : ℕ) {j : ℕ} → n ≤ j → within n e i j ≡ false
  within_column i {j} h = and_off_left (e i j) (and_off_right (ltb i n) (le-ltb j n h))

  -- a graph that reads as e below n, and has nothing beyond
  pub within_is :
      (f : ℕ → ℕ → Bool) → ((i j : ℕ) → i < n → j < n → e i j ≡ f i j) → ((i j : ℕ) → n ≤ i → f i j ≡ false) →
      ((i j : ℕ) → n ≤ j → f i j ≡ false) → within n e ≡ f
  within_is f inner rows columns = fun_ext (λ i. fun_ext (λ j. at i j (below i n) (below j n)))
    where
      at : (i j : ℕ) → (i < n) ⊎ (n ≤ i) → (j < n) ⊎ (n ≤ j) → within n e i j ≡ f i j
      at i j (inl hi) (inl hj) = within_in hi hj ∙ inner i j hi hj
      at i j (inr hi) w = within_row j hi ∙ sym (rows i j hi)
      at i j (inl hi) (inr hj) = within_column i hj ∙ sym (columns i j hj)

-- word k of a row is read by its columns 64 x k to 64 x k + 63
module _ (k : ℕ) {b : ℕ} (h : b < 64) where
  pub column_word : (64 * k + b) / 64 ≡ k
  column_word = omega arith

  pub column_bit : (64 * k + b) % 64 ≡ b
  column_bit = omega arith

-- two rows of two words with the same columns
pub row_ext :
    (r s : List ℕ) → ((k : ℕ) → get_or r k 0 < 2 ^ 64) → ((k : ℕ) → get_or s k 0 < 2 ^ 64) → length r ≡ 2 → length s ≡ 2 →
    ((j : ℕ) → j < 128 → bit (get_or r (j / 64) 0) (j % 64) ≡ bit (get_or s (j / 64) 0) (j % 64)) → r ≡ s
row_ext r s fr fs lr ls same =
    ext_get_or 0 r s (lr ∙ sym ls) (λ k hk. bit_ext 64 (fr k) (fs k) (λ b hb.
    rw (column_word k hb, column_bit k hb) at (same (64 * k + b) (omega arith))))

-- rows are settled by the graph that they give
pub row_bits :
    (rows : List (List ℕ)) {i j : ℕ} → i < 128 → j < 128 →
    row_edge rows i j ≡ bit (get_or (get_or rows i []) (j / 64) 0) (j % 64)
unfolding row_edge
row_bits rows = within_in 128 (λ i j. bit (get_or (get_or rows i []) (j / 64) 0) (j % 64))

pub row_row : (rows : List (List ℕ)) {i : ℕ} (j : ℕ) → 128 ≤ i → row_edge rows i j ≡ false
unfolding row_edge
row_row rows = within_row 128 (λ i j. bit (get_or (get_or rows i []) (j / 64) 0) (j % 64))

pub row_column : (rows : List (List ℕ)) (i : ℕ) {j : ℕ} → 128 ≤ j → row_edge rows i j ≡ false
unfolding row_edge
row_column rows = within_column 128 (λ i j. bit (get_or (get_or rows i []) (j / 64) 0) (j % 64))

pub rows_ext : {a b : List (List ℕ)} → AreRows a → AreRows b → row_edge a ≡ row_edge b → a ≡ b
rows_ext {a} {b} A B same =
    ext_get_or [] a b (A.many ∙ sym B.many) (λ i h.
    let hi : i < 128 = omega (arith, A.many) in
    row_ext (get_or a i []) (get_or b i []) (A.fits i) (B.fits i) (A.two i hi) (B.two i hi) (λ j hj.
    sym (row_bits a hi hj) ∙ ap (λ e. e i j) same ∙ row_bits b hi hj))

-- words laid flat are settled by the graph that they give
pub word_bits :
    (words : List ℕ) {i j : ℕ} → i < 128 → j < 128 →
    word_edge words i j ≡ bit (get_or words (2 * i + j / 64) 0) (j % 64)
unfolding word_edge
word_bits words = within_in 128 (λ i j. bit (get_or words (2 * i + j / 64) 0) (j % 64))

pub word_row : (words : List ℕ) {i : ℕ} (j : ℕ) → 128 ≤ i → word_edge words i j ≡ false
unfolding word_edge
word_row words = within_row 128 (λ i j. bit (get_or words (2 * i + j / 64) 0) (j % 64))

pub word_column : (words : List ℕ) (i : ℕ) {j : ℕ} → 128 ≤ j → word_edge words i j ≡ false
unfolding word_edge
word_column words = within_column 128 (λ i j. bit (get_or words (2 * i + j / 64) 0) (j % 64))

pub words_ext : {a b : List ℕ} → AreWords a → AreWords b → word_edge a ≡ word_edge b → a ≡ b
words_ext {a} {b} A B same =
    ext_get_or 0 a b (A.many ∙ sym B.many) (λ p h. bit_ext 64 (A.fits p) (B.fits p) (at p (omega (arith, A.many))))
  where
    at : (p : ℕ) → p < 256 → (k : ℕ) → k < 64 → bit (get_or a p 0) k ≡ bit (get_or b p 0) k
    at p h k hk =
        let hi : p / 2 < 128 = omega arith in
        let hj : 64 * (p % 2) + k < 128 = omega arith in
        let place : 2 * (p / 2) + (64 * (p % 2) + k) / 64 ≡ p = omega arith in
        let there = ap (λ e. e (p / 2) (64 * (p % 2) + k)) same in
        rw (place, column_bit (p % 2) hk) at (sym (word_bits a hi hj) ∙ there ∙ word_bits b hi hj)
