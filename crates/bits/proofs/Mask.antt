-- The bits of a word made by `&`, `|`, `^`, `!`, `<<` and `>>`: each operation works on one bit at a time.
-- The first three by the library's laws that shifts and masks pass through them, the others by induction. Assumes nothing.
use mathlib.Core.Path.{◌≡◌, refl, sym, ◌∙◌, ap, ap₂}
use mathlib.Core.Logic.{◌⊎◌, inl, inr}
use mathlib.Core.Bool.{Bool, true, false, not, ◌&&◌, ◌||◌}
use Prim.Native.Nat.{ℕ, zero, suc, ◌+◌, ◌-◌, ◌*◌, ◌/◌, ◌%◌, ◌^◌, ◌≤◌, ◌<◌}
use native.Mathlib.Nat.{div-add-mod', mod-lt, zero-lt-suc, pow-suc, mul-mod_left, mul-one, one-mul, mul_assoc, mul-div_cancel, div-one, mod-eq_of_lt, lt_of_le_of_lt, div-mul-le_self}
use native.Mathlib.Numerals.{one-add}
use native.Mathlib.Omega.{arith}
use borrow.Author.Tests.{lt-leb}
use lib.Arith.{digits_div, digits_mod}
use lib.Bits.{bit_and, bit_or, bit_xor, and_shr, or_shr, xor_shr, and_mod, or_mod, xor_mod, and_mask, shifted_half}
use lib.Dec.{eqb, leb, eqb-zero-suc, eqb-suc-zero, eqb-suc-suc, leb-zero, leb-suc-zero, leb-suc-suc}
use lib.Pow.{pow-lt, shl-shr, shr-shr}
use Rattle.bits.specs.Bit.{odd, bit}
use Rattle.bits.specs.Choice.{pick}
use Rattle.bits.proofs.Truth.{and_off_left, and_off_right, and_on, below}
use Rattle.bits.proofs.Digit.{last_digit, odd_of_zero, odd_of_one, digit_odd, bit_last, bit_suc, bit_zero, bit_high, half_below}

-- ---- two words, bit by bit: an operation that shifts and masks pass through, and that does g on single digits
module _ (op : ℕ → ℕ → ℕ) (g : Bool → Bool → Bool)
    (shr : (a b k : ℕ) → op a b / 2 ^ k ≡ op (a / 2 ^ k) (b / 2 ^ k))
    (cut : (a b k : ℕ) → op a b % 2 ^ k ≡ op (a % 2 ^ k) (b % 2 ^ k))
    (table : (s t : Bool) → eqb (op (pick s 1 0) (pick t 1 0)) 1 ≡ g s t) where
  odd_op : (a b : ℕ) → odd (op a b) ≡ g (odd a) (odd b)
  unfolding odd
  odd_op a b =
      ap (λ r. eqb r 1) (cut a b 1 ∙ ap₂ op (digit_odd a) (digit_odd b)) ∙ table (odd a) (odd b)

  bit_op : (a b i : ℕ) → bit (op a b) i ≡ g (bit a i) (bit b i)
  unfolding bit
  bit_op a b i = ap odd (shr a b i) ∙ odd_op (a / 2 ^ i) (b / 2 ^ i)

pub bit_of_and : (a b i : ℕ) → bit (bit_and a b) i ≡ (bit a i && bit b i)
bit_of_and = bit_op bit_and ◌&&◌ and_shr and_mod table
  where
    table : (s t : Bool) → eqb (bit_and (pick s 1 0) (pick t 1 0)) 1 ≡ (s && t)
    table true true = refl
    table true false = refl
    table false t = refl

pub bit_of_or : (a b i : ℕ) → bit (bit_or a b) i ≡ (bit a i || bit b i)
bit_of_or = bit_op bit_or ◌||◌ or_shr or_mod table
  where
    table : (s t : Bool) → eqb (bit_or (pick s 1 0) (pick t 1 0)) 1 ≡ (s || t)
    table true true = refl
    table true false = refl
    table false true = refl
    table false false = refl

-- the second word's bits say where the first is turned over
pub bit_of_xor : (a b i : ℕ) → bit (bit_xor a b) i ≡ pick (bit b i) (not (bit a i)) (bit a i)
bit_of_xor = bit_op bit_xor (λ s t. pick t (not s) s) xor_shr xor_mod table
  where
    table : (s t : Bool) → eqb (bit_xor (pick s 1 0) (pick t 1 0)) 1 ≡ pick t (not s) s
    table true true = refl
    table true false = refl
    table false true = refl
    table false false = refl

-- ---- one word

odd_twice : (q : ℕ) → odd (q * 2) ≡ false
odd_twice q = odd_of_zero (q * 2) (mul-mod_left q 2)

half_not : (k w : ℕ) → w < 2 ^ suc k → 2 ^ suc k - 1 - w ≡ (2 ^ k - 1 - w / 2) * 2 + (1 - w % 2)
half_not k w h =
    let small : w / 2 < 2 ^ k = half_below k h in
    omega (arith, pow-suc 2 k, div-add-mod' w 2, mod-lt w (zero-lt-suc 1))

odd_not : (k w : ℕ) → w < 2 ^ suc k → odd (2 ^ suc k - 1 - w) ≡ not (odd w)
odd_not k w h = go (last_digit w)
  where
    last : (2 ^ suc k - 1 - w) % 2 ≡ 1 - w % 2
    last = ap (λ x. x % 2) (half_not k w h) ∙ digits_mod (2 ^ k - 1 - w / 2) (omega arith)

    go : (w % 2 ≡ 0) ⊎ (w % 2 ≡ 1) → odd (2 ^ suc k - 1 - w) ≡ not (odd w)
    go (inl e) = odd_of_one (2 ^ suc k - 1 - w) (last ∙ ap (λ r. 1 - r) e) ∙ ap not (sym (odd_of_zero w e))
    go (inr e) = odd_of_zero (2 ^ suc k - 1 - w) (last ∙ ap (λ r. 1 - r) e) ∙ ap not (sym (odd_of_one w e))

-- the complement in k digits turns each of them over
pub bit_not : (k w i : ℕ) → w < 2 ^ k → i < k → bit (2 ^ k - 1 - w) i ≡ not (bit w i)
bit_not zero w i h l = absurd (omega arith)
bit_not (suc k) w zero h l = bit_last (2 ^ suc k - 1 - w) ∙ odd_not k w h ∙ ap not (sym (bit_last w))
bit_not (suc k) w (suc i) h l =
    bit_suc (2 ^ suc k - 1 - w) i
    ∙ ap (λ x. bit (x / 2) i) (half_not k w h)
    ∙ ap (λ x. bit x i) (digits_div (2 ^ k - 1 - w / 2) (omega arith))
    ∙ bit_not k (w / 2) i (half_below k h) (omega arith)
    ∙ ap not (sym (bit_suc w i))

-- so `a & !b` keeps the bits of a that are not of b
pub bit_less : (k : ℕ) {a b : ℕ} (j : ℕ) → a < 2 ^ k → b < 2 ^ k → bit (bit_and a (2 ^ k - 1 - b)) j ≡ (bit a j && not (bit b j))
bit_less k {a} {b} j ha hb = bit_of_and a (2 ^ k - 1 - b) j ∙ go (below j k)
  where
    go : (j < k) ⊎ (k ≤ j) → (bit a j && bit (2 ^ k - 1 - b) j) ≡ (bit a j && not (bit b j))
    go (inl h) = ap (λ t. bit a j && t) (bit_not k b j hb h)
    go (inr h) = and_off_left _ (bit_high k j ha h) ∙ sym (and_off_left _ (bit_high k j ha h))

-- a power of two has one bit
pub bit_pow : (i j : ℕ) → bit (2 ^ i) j ≡ eqb j i
bit_pow zero zero = bit_last 1 ∙ odd_of_one 1 refl
bit_pow zero (suc j) = bit_high 1 (suc j) (omega arith) (omega arith) ∙ sym (eqb-suc-zero j)
bit_pow (suc i) zero = bit_last (2 ^ suc i) ∙ ap odd (pow-suc 2 i) ∙ odd_twice (2 ^ i) ∙ sym (eqb-zero-suc i)
bit_pow (suc i) (suc j) =
    bit_suc (2 ^ suc i) j
    ∙ ap (λ x. bit (x / 2) j) (pow-suc 2 i)
    ∙ ap (λ x. bit x j) (mul-div_cancel (2 ^ i) (zero-lt-suc 1))
    ∙ bit_pow i j
    ∙ sym (eqb-suc-suc j i)

-- `1 << i` is that power
pub one_shifted : {i k : ℕ} → i < k → (1 * 2 ^ i) % 2 ^ k ≡ 2 ^ i
one_shifted {i} {k} h = ap (λ x. x % 2 ^ k) (one-mul (2 ^ i)) ∙ mod-eq_of_lt (pow-lt h)

-- so `^` with it turns bit i over, `& !` clears it
pub bit_flipped : (k w i j : ℕ) → i < k → bit (bit_xor w ((1 * 2 ^ i) % 2 ^ k)) j ≡ pick (eqb j i) (not (bit w j)) (bit w j)
bit_flipped k w i j h =
    ap (λ x. bit (bit_xor w x) j) (one_shifted h) ∙ bit_of_xor w (2 ^ i) j ∙ ap (λ t. pick t (not (bit w j)) (bit w j)) (bit_pow i j)

pub bit_without : (k w i j : ℕ) → w < 2 ^ k → i < k → bit (bit_and w (2 ^ k - 1 - (1 * 2 ^ i) % 2 ^ k)) j ≡ (bit w j && not (eqb j i))
bit_without k w i j hw h =
    ap (λ x. bit (bit_and w (2 ^ k - 1 - x)) j) (one_shifted h)
    ∙ bit_less k j hw (pow-lt h)
    ∙ ap (λ t. bit w j && not t) (bit_pow i j)

-- and a bit is what `>> i` and `& 1` leave
pub bit_of : (w i : ℕ) → eqb (bit_and (w / 2 ^ i) 1) 1 ≡ bit w i
unfolding bit odd
bit_of w i = ap (λ r. eqb r 1) (and_mask (w / 2 ^ i) 1)

-- ---- shifts

pub bit_shr : (w k i : ℕ) → bit (w / 2 ^ k) i ≡ bit w (k + i)
unfolding bit
bit_shr w k i = ap odd (shr-shr w k i)

pub bit_shl : (w k i : ℕ) → bit (w * 2 ^ k) (k + i) ≡ bit w i
bit_shl w k i = sym (bit_shr (w * 2 ^ k) k i) ∙ ap (λ x. bit x i) (shl-shr w k)

-- down and up again keeps the bits at i and above
pub bit_up : (w i j : ℕ) → bit (w / 2 ^ i * 2 ^ i) j ≡ (bit w j && leb i j)
bit_up w zero j =
    ap (λ x. bit x j) (mul-one (w / 1) ∙ div-one w) ∙ sym (and_on (bit w j) (leb-zero j))
bit_up w (suc i) zero =
    ap (λ x. bit x 0) (ap (λ p. w / 2 ^ suc i * p) (pow-suc 2 i) ∙ sym (mul_assoc (w / 2 ^ suc i) (2 ^ i) 2))
    ∙ bit_last (w / 2 ^ suc i * 2 ^ i * 2)
    ∙ odd_twice (w / 2 ^ suc i * 2 ^ i)
    ∙ sym (and_off_right (bit w 0) (leb-suc-zero i))
bit_up w (suc i) (suc j) =
    bit_suc (w / 2 ^ suc i * 2 ^ suc i) j
    ∙ ap (λ x. bit x j) (shifted_half (w / 2 ^ suc i) i)
    ∙ ap (λ q. bit (q * 2 ^ i) j) (ap (λ k. w / 2 ^ k) (sym (one-add i)) ∙ sym (shr-shr w 1 i))
    ∙ bit_up (w / 2) i j
    ∙ ap₂ (λ s t. s && t) (sym (bit_suc w j)) (sym (leb-suc-suc i j))

-- also where the word is kept to k digits
pub bit_from : (k : ℕ) {w : ℕ} (i j : ℕ) → w < 2 ^ k → bit (w / 2 ^ i * 2 ^ i % 2 ^ k) j ≡ (bit w j && leb i j)
bit_from k {w} i j h = ap (λ x. bit x j) (mod-eq_of_lt (lt_of_le_of_lt (div-mul-le_self w (2 ^ i)) h)) ∙ bit_up w i j

-- and from k on such a word has none
pub bit_from_none : (k : ℕ) {w : ℕ} (i j : ℕ) → w < 2 ^ k → k ≤ i → bit 0 j ≡ (bit w j && leb i j)
bit_from_none k {w} i j h l = bit_zero j ∙ go (below j k)
  where
    go : (j < k) ⊎ (k ≤ j) → false ≡ (bit w j && leb i j)
    go (inl b) = sym (and_off_right (bit w j) (lt-leb i j (omega arith)))
    go (inr b) = sym (and_off_left (leb i j) (bit_high k j h b))
