-- The lowest set bit of a word: there is one where the word is not 0, there is only one, and `w & (w - 1)` clears it.
-- Counting the set bits counts `bit`. By induction on the width or on the bit, each step halving the word. Assumes nothing.
use mathlib.Core.Path.{◌≡◌, refl, sym, ◌∙◌, ap, ap₂}
use mathlib.Core.Logic.{◌⊎◌, inl, inr}
use mathlib.Core.Bool.{Bool, true, false, not, ◌&&◌}
use Prim.Native.Nat.{ℕ, zero, suc, ◌+◌, ◌-◌, ◌*◌, ◌/◌, ◌%◌, ◌^◌, ◌<◌}
use native.Mathlib.Nat.{div-add-mod', le_antisymm, le_of_suc-le-suc, lt_of_not-le, eq-zero-or-pos}
use native.Mathlib.Omega.{arith}
use lib.Arith.{digits_div, digits_mod, lt-one}
use lib.Bits.{bit_and, and_le_r}
use lib.Count.{ones, ones_step, count_trailing_zeros, under}
use lib.Dec.{eqb, eqb-suc-zero, eqb-suc-suc}
use Rattle.bits.specs.Bit.{bit}
use Rattle.bits.specs.Choice.{count}
use Rattle.bits.specs.Word.{Lowest, Cleared}
use Rattle.bits.proofs.Truth.{never, and_off_left, and_on}
use Rattle.bits.proofs.Digit.{last_digit, odd_of_zero, odd_of_one, digit_odd, bit_last, bit_suc, bit_zero, half_below}
use Rattle.bits.proofs.Mask.{bit_of_and}
use Rattle.bits.proofs.Counting.{one, count_zero, count_ext, count_front}

-- i is the first set bit of w, and below k
abbrev First : ℕ → ℕ → ℕ → Type 0
First k w i = (i < k) × (bit w i ≡ true) × ((j : ℕ) → j < i → bit w j ≡ false)

-- an odd word's first set bit is its lowest, and an even word's is one above its half's
first_odd : (k w : ℕ) → w % 2 ≡ 1 → First (suc k) w 0
first_odd k w e = (omega arith, bit_last w ∙ odd_of_one w e, λ j h. absurd (omega arith))

first_even : (k w i : ℕ) → w % 2 ≡ 0 → First k (w / 2) i → First (suc k) w (suc i)
first_even k w i e (l, s, f) = (omega arith, bit_suc w i ∙ s, none)
  where
    none : (j : ℕ) → j < suc i → bit w j ≡ false
    none zero h = bit_last w ∙ odd_of_zero w e
    none (suc j) h = bit_suc w j ∙ f j (omega arith)

-- a word that is not 0 and fits k digits has its first set bit where its trailing zeros end
trailing_first : (k w : ℕ) → 0 < w → w < 2 ^ k → First k w (count_trailing_zeros k w)
unfolding count_trailing_zeros
trailing_first zero w p h = absurd (omega (arith, lt-one h))
trailing_first (suc k) w p h = go (last_digit w) (λ q. trailing_first k (w / 2) q (half_below k h))
  where
    go : (w % 2 ≡ 0) ⊎ (w % 2 ≡ 1) → (0 < w / 2 → First k (w / 2) (count_trailing_zeros k (w / 2)))
        → First (suc k) w (under (w % 2) (count_trailing_zeros k (w / 2)))
    go (inl e) half = rw e (first_even k w (count_trailing_zeros k (w / 2)) e (half (omega (arith, div-add-mod' w 2))))
    go (inr e) half = rw e (first_odd k w e)

pub trailing_lowest : {w : ℕ} → 0 < w → w < 2 ^ 64 → Lowest w (count_trailing_zeros 64 w)
trailing_lowest {w} p h =
    let f : First 64 w (count_trailing_zeros 64 w) = trailing_first 64 w p h in
    record { within = f.0; set = f.1; first = f.2 }

-- a word that is not 0 has a lowest set bit
pub lowest : {w : ℕ} → 0 < w → w < 2 ^ 64 → (i : ℕ) × Lowest w i
lowest {w} p h = (count_trailing_zeros 64 w, trailing_lowest p h)

-- and only one
pub lowest_unique : {w i j : ℕ} → Lowest w i → Lowest w j → i ≡ j
lowest_unique {w} {i} {j} a b =
    le_antisymm
    (le_of_suc-le-suc (lt_of_not-le (λ l. never b.set (a.first j l))))
    (le_of_suc-le-suc (lt_of_not-le (λ l. never a.set (b.first i l))))

-- a word with a set bit is not 0
pub set_positive : {w : ℕ} (i : ℕ) → bit w i ≡ true → 0 < w
set_positive {w} i s = go (eq-zero-or-pos w)
  where
    go : (w ≡ 0) ⊎ (0 < w) → 0 < w
    go (inl e) = never s (ap (λ x. bit x i) e ∙ bit_zero i)
    go (inr p) = p

-- ---- the lowest set bit cleared

last_of : (w : ℕ) (t : Bool) → bit w 0 ≡ t → w % 2 ≡ one t
last_of w t e = digit_odd w ∙ ap one (sym (bit_last w) ∙ e)

-- one less than an odd word: its lowest bit goes, and its half stays
less_odd : (w : ℕ) → w % 2 ≡ 1 → w - 1 ≡ w / 2 * 2 + 0
less_odd w e = omega (arith, div-add-mod' w 2)

-- one less than an even word: one less than its half, and an odd digit
less_even : (w : ℕ) → w % 2 ≡ 0 → 0 < w / 2 → w - 1 ≡ (w / 2 - 1) * 2 + 1
less_even w e p = omega (arith, div-add-mod' w 2)

half_of : {w r : ℕ} (q : ℕ) → w ≡ q * 2 + r → r < 2 → w / 2 ≡ q
half_of q e h = ap (λ x. x / 2) e ∙ digits_div q h

and_self : (t : Bool) → (t && t) ≡ t
and_self true = refl
and_self false = refl

-- so below the first set bit i nothing is set, i itself goes, and the bits above it stay
less_bits : (i w : ℕ) → bit w i ≡ true → ((j : ℕ) → j < i → bit w j ≡ false) → (j : ℕ)
    → (bit w j && bit (w - 1) j) ≡ (bit w j && not (eqb j i))
less_bits zero w s f zero =
    ap (λ t. bit w 0 && t) (bit_last (w - 1) ∙ odd_of_zero (w - 1) (ap (λ x. x % 2) (less_odd w (last_of w true s)) ∙ digits_mod (w / 2) (omega arith)))
less_bits zero w s f (suc j) =
    ap (λ t. bit w (suc j) && t)
    (bit_suc (w - 1) j ∙ ap (λ x. bit x j) (half_of (w / 2) (less_odd w (last_of w true s)) (omega arith)) ∙ sym (bit_suc w j))
    ∙ and_self (bit w (suc j))
    ∙ sym (and_on (bit w (suc j)) (ap not (eqb-suc-zero j)))
less_bits (suc i) w s f zero =
    and_off_left (bit (w - 1) 0) (f 0 (omega arith)) ∙ sym (and_off_left (not (eqb 0 (suc i))) (f 0 (omega arith)))
less_bits (suc i) w s f (suc j) =
    let set : bit (w / 2) i ≡ true = sym (bit_suc w i) ∙ s in
    let half : (w - 1) / 2 ≡ w / 2 - 1 =
    half_of (w / 2 - 1) (less_even w (last_of w false (f 0 (omega arith))) (set_positive i set)) (omega arith) in
    ap₂ (λ a b. a && b) (bit_suc w j) (bit_suc (w - 1) j ∙ ap (λ x. bit x j) half)
    ∙ less_bits i (w / 2) set (λ k h. sym (bit_suc w k) ∙ f (suc k) (omega arith)) j
    ∙ ap₂ (λ a b. a && not b) (sym (bit_suc w j)) (sym (eqb-suc-suc j i))

pub cleared : {w : ℕ} → 0 < w → Cleared w (bit_and w (w - 1))
cleared {w} p =
    record {
      bits = λ i l j. bit_of_and w (w - 1) j ∙ less_bits i w l.set l.first j;
      smaller = omega (arith, and_le_r w (w - 1));
    }

-- ---- how many bits are set

ones_of_zero : ones 0 ≡ 0
unfolding ones
ones_of_zero = refl

pub ones_count : (k w : ℕ) → w < 2 ^ k → ones w ≡ count (bit w) k
ones_count zero w h = ap ones (lt-one h) ∙ ones_of_zero ∙ sym (count_zero (bit w))
ones_count (suc k) w h =
    ones_step w
    ∙ ap₂ (λ a b. a + b) (digit_odd w ∙ ap one (sym (bit_last w))) (ones_count k (w / 2) (half_below k h))
    ∙ ap (λ n. one (bit w 0) + n) (count_ext k (λ j l. sym (bit_suc w j)))
    ∙ sym (count_front (bit w) k)
