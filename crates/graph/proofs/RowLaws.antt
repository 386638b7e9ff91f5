-- How the rows of a graph grow: a word by one bit, a row of two words, the rows by one row. What is not yet made is
-- clear, so each state is said by one equation over every bit. Assumes nothing.
use mathlib.Core.Path.{◌≡◌, refl, sym, ◌∙◌, ap}
use mathlib.Core.Logic.{◌⊎◌, inl, inr, ◌≢◌}
use mathlib.Core.Bool.{Bool, true, false, not, ◌&&◌}
use mathlib.Core.List.{List, [], ◌∷◌}
use Prim.Native.Nat.{ℕ, zero, suc, ◌+◌, ◌*◌, ◌/◌, ◌%◌, ◌^◌, ◌≤◌, ◌<◌}
use native.Mathlib.Omega.{arith}
use native.Mathlib.Nat.{zero-add}
use lib.ListN.{length, get_or, set, replicate, length-set, get_or-replicate, get_or-eq_default}
use lib.Seq.{get_or-set_same, get_or-set_other}
use lib.Dec.{ltb, eqb}
use borrow.Author.Tests.{lt-ltb, le-ltb, eq-eqb, ne_eqb}
use Rattle.bits.specs.Bit.{bit}
use Rattle.bits.specs.Choice.{pick}
use Rattle.bits.proofs.Truth.{below, equal, and_off_left}
use Rattle.bits.proofs.Digit.{bit_zero}
use Rattle.graph.specs.Graph.{edge, row_edge}
use Rattle.graph.specs.Rows.{IsRow, AreRows, Rowed}
use Rattle.graph.proofs.Within.{within_in, within_row, within_column, within_is, rows_ext}

-- an edge of the bytes at two vertices, and none where j is no vertex
module _ (n : ℕ) (g : List ℕ) where
  pub edge_in : {i j : ℕ} → i < n → j < n → edge n g i j ≡ eqb (get_or g (i * n + j) 0) 1
  unfolding edge
  edge_in = within_in n (λ i j. eqb (get_or g (i * n + j) 0) 1)

  pub edge_row : {i : ℕ} (j : ℕ) → n ≤ i → edge n g i j ≡ false
  unfolding edge
  edge_row = within_row n (λ i j. eqb (get_or g (i * n + j) 0) 1)

  pub edge_column : (i : ℕ) {j : ℕ} → n ≤ j → edge n g i j ≡ false
  unfolding edge
  edge_column = within_column n (λ i j. eqb (get_or g (i * n + j) 0) 1)

-- a clear bit that is toggled is set
pub set_clear :
    (w k r : ℕ) → bit w k ≡ false → ((j : ℕ) → bit r j ≡ pick (eqb j k) (not (bit w j)) (bit w j)) →
    (j : ℕ) → bit r j ≡ pick (eqb j k) true (bit w j)
set_clear w k r clear flip j = flip j ∙ at (equal j k)
  where
    at : (j ≡ k) ⊎ (j ≢ k) → pick (eqb j k) (not (bit w j)) (bit w j) ≡ pick (eqb j k) true (bit w j)
    at (inl e) = let off : bit w j ≡ false = rw e clear in simp (off)
    at (inr d) = simp (ne_eqb j k d)

-- a clear bit that is left alone is as it was
pub left_clear : (w k : ℕ) → bit w k ≡ false → (j : ℕ) → bit w j ≡ pick (eqb j k) false (bit w j)
left_clear w k clear j = at (equal j k)
  where
    at : (j ≡ k) ⊎ (j ≢ k) → bit w j ≡ pick (eqb j k) false (bit w j)
    at (inl e) = let off : bit w j ≡ false = rw e clear in simp (off, eq-eqb j k e)
    at (inr d) = simp (ne_eqb j k d)

-- w has the bits below k of f, and no other
pub record Part (f : ℕ → Bool) (k w : ℕ) : Type 0 where
  pub bits : (j : ℕ) → bit w j ≡ (ltb j k && f j)
  pub fits : w < 2 ^ 64

module _ (f : ℕ → Bool) where
  pub part_none : Part f 0 0
  part_none = record { bits = λ j. bit_zero j ∙ sym (and_off_left (f j) (le-ltb j 0 (omega arith))); fits = omega arith }

  pub part_clear : {k w : ℕ} → Part f k w → bit w k ≡ false
  part_clear {k} p = p.bits k ∙ and_off_left (f k) (le-ltb k k (omega arith))

  pub part_next :
      {k w : ℕ} (r : ℕ) {on : Bool} → Part f k w → r < 2 ^ 64 → on ≡ f k →
      ((j : ℕ) → bit r j ≡ pick (eqb j k) on (bit w j)) → Part f (k + 1) r
  part_next {k} {w} r {on} p small e step = record { bits = λ j. step j ∙ at j (equal j k) (below j k); fits = small }
    where
      at : (j : ℕ) → (j ≡ k) ⊎ (j ≢ k) → (j < k) ⊎ (k ≤ j) → pick (eqb j k) on (bit w j) ≡ (ltb j (k + 1) && f j)
      at j (inl q) w = simp (eq-eqb j k q, lt-ltb j (k + 1) (omega arith)) (e ∙ ap f (sym q))
      at j (inr d) (inl l) = simp (ne_eqb j k d, lt-ltb j (k + 1) (omega arith), p.bits j, lt-ltb j k l)
      at j (inr d) (inr l) = simp (ne_eqb j k d, le-ltb j (k + 1) (omega arith), p.bits j, le-ltb j k l)

  pub part_end : {k w : ℕ} → 64 ≤ k → Part f k w → (j : ℕ) → j < 64 → bit w j ≡ f j
  part_end {k} l p j h = p.bits j ∙ simp (lt-ltb j k (omega arith))

  -- two words of 64 columns each make a row
  pub row_made :
      {low high : ℕ} → low < 2 ^ 64 → high < 2 ^ 64 → ((k : ℕ) → k < 64 → bit low k ≡ f (0 + k)) →
      ((k : ℕ) → k < 64 → bit high k ≡ f (64 + k)) → IsRow (low ∷ high ∷ []) f
  row_made {low} {high} fl fh bl bh = record { two = refl; fits = fits; bits = λ j h. at j h (below j 64) }
    where
      fits : (k : ℕ) → get_or (low ∷ high ∷ []) k 0 < 2 ^ 64
      fits zero = fl
      fits (suc zero) = fh
      fits (suc (suc k)) = omega arith

      at : (j : ℕ) → j < 128 → (j < 64) ⊎ (64 ≤ j) → bit (get_or (low ∷ high ∷ []) (j / 64) 0) (j % 64) ≡ f j
      at j h (inl l) =
          let word : j / 64 ≡ 0 = omega arith in
          let place : j % 64 ≡ j = omega arith in
          rw (word, place) (bl j l ∙ ap f (zero-add j))
      at j h (inr l) =
          let word : j / 64 ≡ 1 = omega arith in
          let place : 64 + j % 64 ≡ j = omega arith in
          rw word (bh (j % 64) (omega arith) ∙ ap f place)

-- the rows of f below i are made, the others are clear
pub record Begun (f : ℕ → ℕ → Bool) (i : ℕ) (rows : List (List ℕ)) : Type 0 where
  pub shape : AreRows rows
  pub bits : (a b : ℕ) → a < 128 → b < 128 → bit (get_or (get_or rows a []) (b / 64) 0) (b % 64) ≡ (ltb a i && f a b)

-- 128 clear rows
abbrev pub blank : List ℕ
blank = 0 ∷ 0 ∷ []

abbrev pub clear : List (List ℕ)
clear = replicate 128 blank

clear_row : (i : ℕ) → i < 128 → get_or clear i [] ≡ blank
clear_row i h = get_or-replicate 128 i blank [] h

clear_word : (i k : ℕ) → get_or (get_or clear i []) k 0 ≡ 0
clear_word i k = at (below i 128)
  where
    zeros : (m : ℕ) → get_or blank m 0 ≡ 0
    zeros zero = refl
    zeros (suc zero) = refl
    zeros (suc (suc m)) = refl

    at : (i < 128) ⊎ (128 ≤ i) → get_or (get_or clear i []) k 0 ≡ 0
    at (inl h) = rw (clear_row i h) (zeros k)
    at (inr h) = rw (get_or-eq_default clear [] h) refl

module _ (f : ℕ → ℕ → Bool) where
  pub begun_none : Begun f 0 clear
  begun_none =
      record {
        shape = record {
          many = refl;
          two = λ i h. ap length (clear_row i h);
          fits = λ i k. rw (clear_word i k) (omega arith);
        };
        bits =
            λ a b ha hb.
            let none = and_off_left (f a b) (le-ltb a 0 (omega arith)) in
            rw (clear_word a (b / 64)) (bit_zero (b % 64) ∙ sym none);
      }

  -- a row is stored at i
  pub begun_next :
      (i : ℕ) (rows : List (List ℕ)) {row : List ℕ} → i < 128 → Begun f i rows → IsRow row (f i) →
      Begun f (i + 1) (set rows i row)
  begun_next i rows {row} hi made new =
      record {
        shape = record {
          many = length-set rows i row ∙ made.shape.many;
          two = λ a h. two a h (equal a i);
          fits = λ a. fits a (equal a i);
        };
        bits = λ a b ha hb. bits a b ha hb (equal a i) (below a i);
      }
    where
      here : get_or (set rows i row) i [] ≡ row
      here = get_or-set_same rows i row [] (omega (arith, made.shape.many))

      two : (a : ℕ) → a < 128 → (a ≡ i) ⊎ (a ≢ i) → length (get_or (set rows i row) a []) ≡ 2
      two a h (inl e) = rw (e, here) new.two
      two a h (inr d) = rw (get_or-set_other rows i a row [] d) (made.shape.two a h)

      fits : (a : ℕ) → (a ≡ i) ⊎ (a ≢ i) → (k : ℕ) → get_or (get_or (set rows i row) a []) k 0 < 2 ^ 64
      fits a (inl e) k = rw (e, here) (new.fits k)
      fits a (inr d) k = rw (get_or-set_other rows i a row [] d) (made.shape.fits a k)

      bits :
          (a b : ℕ) → a < 128 → b < 128 → (a ≡ i) ⊎ (a ≢ i) → (a < i) ⊎ (i ≤ a) →
          bit (get_or (get_or (set rows i row) a []) (b / 64) 0) (b % 64) ≡ (ltb a (i + 1) && f a b)
      bits a b ha hb (inl e) w = rw (lt-ltb a (i + 1) (omega arith), e, here) (new.bits b hb)
      bits a b ha hb (inr d) (inl l) =
          rw (lt-ltb a (i + 1) (omega arith), get_or-set_other rows i a row [] d) (made.bits a b ha hb ∙ simp (lt-ltb a i l))
      bits a b ha hb (inr d) (inr l) =
          rw (le-ltb a (i + 1) (omega arith), get_or-set_other rows i a row [] d) (made.bits a b ha hb ∙ simp (le-ltb a i l))

-- all n rows are made
pub begun_end : {n i : ℕ} {g : List ℕ} {rows : List (List ℕ)} → n ≤ 128 → n ≤ i → Begun (edge n g) i rows → Rowed n g rows
unfolding row_edge
begun_end {n} {i} {g} {rows} few past made =
    record {
      shape = made.shape;
      edges =
          within_is 128 (λ a b. bit (get_or (get_or rows a []) (b / 64) 0) (b % 64)) (edge n g)
          (λ a b ha hb. made.bits a b ha hb ∙ at a b (below a i))
          (λ a b h. edge_row n g b (omega arith))
          (λ a b h. edge_column n g a (omega arith));
    }
  where
    at : (a b : ℕ) → (a < i) ⊎ (i ≤ a) → (ltb a i && edge n g a b) ≡ edge n g a b
    at a b (inl l) = simp (lt-ltb a i l)
    at a b (inr l) = simp (le-ltb a i l) (sym (edge_row n g b (omega arith)))

-- the contract of `rows_of` determines the rows
pub rows_determined : {n : ℕ} {g : List ℕ} {a b : List (List ℕ)} → Rowed n g a → Rowed n g b → a ≡ b
rows_determined A B = rows_ext A.shape B.shape (A.edges ∙ sym B.edges)
