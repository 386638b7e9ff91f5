-- The words of a graph laid flat: how they are copied from rows, what one toggled entry and one toggled pair leave, and
-- that a pair toggled twice leaves the words as they were. Assumes nothing.
use mathlib.Core.Path.{◌≡◌, refl, sym, ◌∙◌, ap, fun_ext}
use mathlib.Core.Logic.{◌⊎◌, inl, inr, ◌≢◌}
use mathlib.Core.Bool.{Bool, true, false, not, ◌&&◌, ◌||◌}
use mathlib.Core.List.{List, []}
use Prim.Native.Nat.{ℕ, ◌+◌, ◌*◌, ◌/◌, ◌%◌, ◌^◌, ◌≤◌, ◌<◌}
use native.Mathlib.Omega.{arith}
use lib.ListN.{length, get_or, set, length-set, replicate, get_or-replicate, get_or-eq_default}
use lib.Seq.{get_or-set_same, get_or-set_other}
use lib.Dec.{eqb}
use borrow.Author.Tests.{eq-eqb, ne_eqb, eqb-true}
use Rattle.bits.specs.Bit.{bit}
use Rattle.bits.specs.Choice.{pick}
use Rattle.bits.proofs.Truth.{below, equal, and_left, and_right, and_off_left, and_off_right, fails}
use Rattle.graph.specs.Graph.{row_edge, word_edge, flipped, is_pair}
use Rattle.graph.specs.Rows.{AreWords, Flat, OneWay, Toggled}
use Rattle.graph.proofs.Within.{
  within_is,
  words_ext,
  word_bits,
  word_row,
  word_column,
  row_bits,
  row_row,
  row_column,
}

-- b, toggled where t says so
abbrev pub flip : Bool → Bool → Bool
flip t b = pick t (not b) b

-- one word is stored
pub words_set : {words : List ℕ} {r : ℕ} (p : ℕ) → AreWords words → p < 256 → r < 2 ^ 64 → AreWords (set words p r)
words_set {words} {r} p W hp hr = record { many = length-set words p r ∙ W.many; fits = λ q. at q (equal q p) }
  where
    at : (q : ℕ) → (q ≡ p) ⊎ (q ≢ p) → get_or (set words p r) q 0 < 2 ^ 64
    at q (inl e) = rw (e, get_or-set_same words p r 0 (omega (arith, W.many))) hr
    at q (inr d) = rw (get_or-set_other words p q r 0 d) (W.fits q)

-- the words of the rows below i are copied
pub record Copied (rows : List (List ℕ)) (i : ℕ) (words : List ℕ) : Type 0 where
  pub shape : AreWords words
  pub word : (a k : ℕ) → a < i → k < 2 → get_or words (2 * a + k) 0 ≡ get_or (get_or rows a []) k 0

module _ (rows : List (List ℕ)) where
  pub copied_none : Copied rows 0 (replicate 256 0)
  copied_none =
      record { shape = record { many = refl; fits = λ p. zeros p (below p 256) }; word = λ a k h. absurd (omega arith) }
    where
      zeros : (p : ℕ) → (p < 256) ⊎ (256 ≤ p) → get_or {A = ℕ} (replicate 256 0) p 0 < 2 ^ 64
      zeros p (inl h) = rw (get_or-replicate {A = ℕ} 256 p 0 0 h) (omega arith)
      zeros p (inr h) = rw (get_or-eq_default {A = ℕ} (replicate 256 0) 0 h) (omega arith)

  -- nothing of any words
  pub copied_start : {words : List ℕ} → AreWords words → Copied rows 0 words
  copied_start shape = record { shape = shape; word = λ a k h. absurd (omega arith) }

  -- the two words of row i are stored
  pub copied_next :
      (i : ℕ) (words : List ℕ) {low high : ℕ} → i < 128 → low < 2 ^ 64 → high < 2 ^ 64 → low ≡ get_or (get_or rows i []) 0 0 →
      high ≡ get_or (get_or rows i []) 1 0 → Copied rows i words →
      Copied rows (i + 1) (set (set words (2 * i) low) (2 * i + 1) high)
  copied_next i words {low} {high} hi small big first second made =
      record {
        shape = words_set (2 * i + 1) half (omega arith) big;
        word = λ a k h hk. at a k h hk (equal (2 * a + k) (2 * i + 1)) (equal (2 * a + k) (2 * i));
      }
    where
      half : AreWords (set words (2 * i) low)
      half = words_set (2 * i) made.shape (omega arith) small

      at :
          (a k : ℕ) → a < i + 1 → k < 2 → (2 * a + k ≡ 2 * i + 1) ⊎ (2 * a + k ≢ 2 * i + 1) →
          (2 * a + k ≡ 2 * i) ⊎ (2 * a + k ≢ 2 * i) →
          get_or (set (set words (2 * i) low) (2 * i + 1) high) (2 * a + k) 0 ≡ get_or (get_or rows a []) k 0
      at a k h hk (inl e) w =
          let row : a ≡ i = omega arith in
          let word : k ≡ 1 = omega arith in
          rw (e, get_or-set_same (set words (2 * i) low) (2 * i + 1) high 0 (omega (arith, half.many)), row, word) second
      at a k h hk (inr d) (inl e) =
          let row : a ≡ i = omega arith in
          let word : k ≡ 0 = omega arith in
          get_or-set_other (set words (2 * i) low) (2 * i + 1) (2 * a + k) high 0 d ∙
          rw (e, get_or-set_same words (2 * i) low 0 (omega (arith, made.shape.many)), row, word) first
      at a k h hk (inr d) (inr f) =
          get_or-set_other (set words (2 * i) low) (2 * i + 1) (2 * a + k) high 0 d ∙
          get_or-set_other words (2 * i) (2 * a + k) low 0 f ∙ made.word a k (omega arith) hk

  pub copied_end : {i : ℕ} {words : List ℕ} → 128 ≤ i → Copied rows i words → Flat rows words
  unfolding word_edge
  copied_end {i} {words} past made =
      record {
        shape = made.shape;
        word = λ a k ha. made.word a k (omega arith);
        edges =
            within_is 128 (λ a b. bit (get_or words (2 * a + b / 64) 0) (b % 64)) (row_edge rows) (λ a b ha hb.
            rw (made.word a (b / 64) (omega arith) (omega arith)) (sym (row_bits rows ha hb)))
            (λ a b. row_row rows b)
            (λ a b. row_column rows a);
      }

module _ (x y : ℕ) (hx : x < 128) (hy : y < 128) (words : List ℕ) where
  -- the entry at row i, column j has its word at the same place as that at x, y
  same_entry :
      (i j : ℕ) → j < 128 → 2 * i + j / 64 ≡ 2 * x + y / 64 → eqb (j % 64) (y % 64) ≡ (eqb i x && eqb j y)
  same_entry i j hj e = at (equal j y)
    where
      row : eqb i x ≡ true
      row = eq-eqb i x (omega arith)

      at : (j ≡ y) ⊎ (j ≢ y) → eqb (j % 64) (y % 64) ≡ (eqb i x && eqb j y)
      at (inl q) = simp (row, eq-eqb j y q, eq-eqb (j % 64) (y % 64) (omega arith))
      at (inr d) = simp (row, ne_eqb j y d, ne_eqb (j % 64) (y % 64) (λ h. d (omega arith)))

  other_entry : (i j : ℕ) → (2 * i + j / 64 ≡ 2 * x + y / 64 → ⊥) → (eqb i x && eqb j y) ≡ false
  other_entry i j d =
      fails (λ h.
      let p = eqb-true i x (and_left (eqb i x) (eqb j y) h) in
      let q = eqb-true j y (and_right (eqb i x) (eqb j y) h) in
      d (omega arith))

  -- the word that holds the entry at row x, column y is stored with its bit changed by f
  pub stored_entry :
      (f : Bool → Bool → Bool) → ((b : Bool) → f false b ≡ b) → (r : ℕ) → length words ≡ 256 →
      ((j : ℕ) → bit r j ≡ f (eqb j (y % 64)) (bit (get_or words (2 * x + y / 64) 0) j)) → (i j : ℕ) →
      word_edge (set words (2 * x + y / 64) r) i j ≡ f (eqb i x && eqb j y) (word_edge words i j)
  stored_entry f stays r many changed i j = edges (below i 128) (below j 128)
    where
      inner :
          j < 128 → (2 * i + j / 64 ≡ 2 * x + y / 64) ⊎ (2 * i + j / 64 ≢ 2 * x + y / 64) →
          bit (get_or (set words (2 * x + y / 64) r) (2 * i + j / 64) 0) (j % 64) ≡
          f (eqb i x && eqb j y) (bit (get_or words (2 * i + j / 64) 0) (j % 64))
      inner hj (inl e) =
          rw (e, get_or-set_same words (2 * x + y / 64) r 0 (omega arith), ← same_entry i j hj e) (changed (j % 64))
      inner hj (inr d) =
          rw (get_or-set_other words (2 * x + y / 64) (2 * i + j / 64) r 0 d, other_entry i j d)
          (sym (stays (bit (get_or words (2 * i + j / 64) 0) (j % 64))))

      off_row : 128 ≤ i → (eqb i x && eqb j y) ≡ false
      off_row h = and_off_left (eqb j y) (ne_eqb i x (λ e. omega arith))

      off_column : 128 ≤ j → (eqb i x && eqb j y) ≡ false
      off_column h = and_off_right (eqb i x) (ne_eqb j y (λ e. omega arith))

      edges :
          (i < 128) ⊎ (128 ≤ i) → (j < 128) ⊎ (128 ≤ j) →
          word_edge (set words (2 * x + y / 64) r) i j ≡ f (eqb i x && eqb j y) (word_edge words i j)
      edges (inl hi) (inl hj) =
          rw (word_bits (set words (2 * x + y / 64) r) hi hj, word_bits words hi hj)
          (inner hj (equal (2 * i + j / 64) (2 * x + y / 64)))
      edges (inr hi) w =
          rw (off_row hi, word_row words j hi) (word_row (set words (2 * x + y / 64) r) j hi ∙ sym (stays false))
      edges (inl hi) (inr hj) =
          rw (off_column hj, word_column words i hj)
          (word_column (set words (2 * x + y / 64) r) i hj ∙ sym (stays false))

  -- with its bit toggled
  pub one_way :
      (r : ℕ) → AreWords words → r < 2 ^ 64 →
      ((j : ℕ) → bit r j ≡ flip (eqb j (y % 64)) (bit (get_or words (2 * x + y / 64) 0) j)) →
      OneWay x y words (set words (2 * x + y / 64) r)
  one_way r W hr toggled =
      record {
        shape = words_set (2 * x + y / 64) W (omega arith) hr;
        edges = stored_entry flip (λ b. refl) r W.many toggled;
      }

-- two toggles of different bits, and two of the same
flip_either : (p q b : Bool) → (p ≡ true → q ≡ true → ⊥) → flip q (flip p b) ≡ flip (p || q) b
flip_either true true b h = absurd (h refl refl)
flip_either true false b h = refl
flip_either false true b h = refl
flip_either false false b h = refl

flip_twice : (p b : Bool) → flip p (flip p b) ≡ b
flip_twice true true = refl
flip_twice true false = refl
flip_twice false b = refl

-- a graph toggled twice at a pair is as it was
pub flipped_flipped : (x y : ℕ) (e : ℕ → ℕ → Bool) → flipped x y (flipped x y e) ≡ e
unfolding flipped
flipped_flipped x y e = fun_ext (λ i. fun_ext (λ j. flip_twice (is_pair x y i j) (e i j)))

-- the entry and its mirror
pub both_ways : {x y : ℕ} {a b c : List ℕ} → x ≢ y → OneWay x y a b → OneWay y x b c → Toggled x y a c
unfolding flipped
both_ways {x} {y} {a} {b} {c} apart there back = record { shape = back.shape; edges = fun_ext (λ i. fun_ext (at i)) }
  where
    apart_at : (i j : ℕ) → (eqb i x && eqb j y) ≡ true → (eqb i y && eqb j x) ≡ true → ⊥
    apart_at i j h l =
        let p = eqb-true i x (and_left (eqb i x) (eqb j y) h) in
        let q = eqb-true i y (and_left (eqb i y) (eqb j x) l) in
        apart (sym p ∙ q)

    at : (i j : ℕ) → word_edge c i j ≡ flip (is_pair x y i j) (word_edge a i j)
    at i j =
        back.edges i j ∙
        rw (there.edges i j)
        (flip_either (eqb i x && eqb j y) (eqb i y && eqb j x) (word_edge a i j) (apart_at i j))

-- the words after a pair is toggled twice are the words before
pub toggle_toggle : {x y : ℕ} {a b c : List ℕ} → AreWords a → Toggled x y a b → Toggled x y b c → c ≡ a
toggle_toggle {x} {y} {a} A there back =
    words_ext back.shape A (back.edges ∙ ap (flipped x y) there.edges ∙ flipped_flipped x y (word_edge a))

-- the contract of `toggle` determines the words that it leaves
pub toggle_determined : {x y : ℕ} {a b c : List ℕ} → Toggled x y a b → Toggled x y a c → b ≡ c
toggle_determined B C = words_ext B.shape C.shape (B.edges ∙ sym C.edges)

-- and so does that of `flat_of`
pub flat_determined : {rows : List (List ℕ)} {a b : List ℕ} → Flat rows a → Flat rows b → a ≡ b
flat_determined A B = words_ext A.shape B.shape (A.edges ∙ sym B.edges)
