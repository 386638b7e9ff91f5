-- A word's bits one at a time: the lowest is its parity, and the others are the bits of its half.
-- From this a word is known by its bits, by induction on the width. Assumes nothing.
use mathlib.Core.Path.{◌≡◌, refl, sym, ◌∙◌, ap, ap₂}
use mathlib.Core.Logic.{◌⊎◌, inl, inr}
use mathlib.Core.Bool.{true, false}
use Prim.Native.Nat.{ℕ, zero, suc, ◌+◌, ◌*◌, ◌/◌, ◌%◌, ◌^◌, ◌≤◌, ◌<◌}
use native.Mathlib.Nat.{zero-div, div-one, div-eq_of_lt, div-add-mod', mod-lt, zero-lt-suc, lt_of_lt_of_le, lt_of_not-le, pow-suc, div-lt_iff_lt-mul}
use native.Mathlib.Numerals.{one-add}
use native.Mathlib.Omega.{arith}
use lib.Arith.{lt-one}
use lib.Dec.{eqb}
use lib.Pow.{pow_pos, pow_mono, shr-shr}
use Rattle.bits.specs.Bit.{odd, bit}
use Rattle.bits.specs.Choice.{pick}
use Rattle.bits.proofs.Truth.{never}

-- a number's last digit is 0 or 1
pub last_digit : (n : ℕ) → (n % 2 ≡ 0) ⊎ (n % 2 ≡ 1)
last_digit n = go (n % 2) (mod-lt n (zero-lt-suc 1))
  where
    go : (r : ℕ) → r < 2 → (r ≡ 0) ⊎ (r ≡ 1)
    go zero h = inl refl
    go (suc zero) h = inr refl
    go (suc (suc r)) h = absurd (omega arith)

pub odd_of_one : (n : ℕ) → n % 2 ≡ 1 → odd n ≡ true
unfolding odd
odd_of_one n e = ap (λ r. eqb r 1) e

pub odd_of_zero : (n : ℕ) → n % 2 ≡ 0 → odd n ≡ false
unfolding odd
odd_of_zero n e = ap (λ r. eqb r 1) e

-- the last digit is 1 exactly if the number is odd
pub digit_odd : (n : ℕ) → n % 2 ≡ pick (odd n) 1 0
digit_odd n = go (last_digit n)
  where
    go : (n % 2 ≡ 0) ⊎ (n % 2 ≡ 1) → n % 2 ≡ pick (odd n) 1 0
    go (inl e) = e ∙ ap (λ t. pick t 1 0) (sym (odd_of_zero n e))
    go (inr e) = e ∙ ap (λ t. pick t 1 0) (sym (odd_of_one n e))

-- the lowest bit is the parity
pub bit_last : (w : ℕ) → bit w 0 ≡ odd w
unfolding bit
bit_last w = ap odd (div-one w)

-- the bits above it are those of the half
pub bit_suc : (w i : ℕ) → bit w (suc i) ≡ bit (w / 2) i
unfolding bit
bit_suc w i = ap odd (ap (λ k. w / 2 ^ k) (sym (one-add i)) ∙ sym (shr-shr w 1 i))

-- 0 has no bit
pub bit_zero : (i : ℕ) → bit 0 i ≡ false
unfolding bit odd
bit_zero i = ap (λ q. eqb (q % 2) 1) (zero-div (2 ^ i))

-- a word below 2 ^ k has no bit at k or above
pub bit_high : (k : ℕ) {w : ℕ} (i : ℕ) → w < 2 ^ k → k ≤ i → bit w i ≡ false
unfolding bit odd
bit_high k i h l = ap (λ q. eqb (q % 2) 1) (div-eq_of_lt (lt_of_lt_of_le h (pow_mono l)))

-- a set bit of a word below 2 ^ k is below k
pub bit_below : (k : ℕ) {w i : ℕ} → w < 2 ^ k → bit w i ≡ true → i < k
bit_below k {i = i} h s = lt_of_not-le (λ l. never s (bit_high k i h l))

pub half_below : {w : ℕ} (k : ℕ) → w < 2 ^ suc k → w / 2 < 2 ^ k
half_below {w} k h = (div-lt_iff_lt-mul (zero-lt-suc 1)).1 (rw (← pow-suc 2 k) h)

-- two words below 2 ^ k with equal bits are equal
pub bit_ext : (k : ℕ) {a b : ℕ} → a < 2 ^ k → b < 2 ^ k → ((i : ℕ) → i < k → bit a i ≡ bit b i) → a ≡ b
bit_ext zero ha hb e = lt-one ha ∙ sym (lt-one hb)
bit_ext (suc k) {a} {b} ha hb e =
    let halves : a / 2 ≡ b / 2 =
    bit_ext k (half_below k ha) (half_below k hb) (λ i h. sym (bit_suc a i) ∙ e (suc i) (omega arith) ∙ bit_suc b i) in
    let parity : odd a ≡ odd b = sym (bit_last a) ∙ e 0 (omega arith) ∙ bit_last b in
    sym (div-add-mod' a 2)
    ∙ ap₂ (λ q r. q * 2 + r) halves (digit_odd a ∙ ap (λ t. pick t 1 0) parity ∙ sym (digit_odd b))
    ∙ div-add-mod' b 2

-- a word with no bit is 0
pub no_bits : (k : ℕ) {w : ℕ} → w < 2 ^ k → ((i : ℕ) → i < k → bit w i ≡ false) → w ≡ 0
no_bits k h e = bit_ext k h (pow_pos k) (λ i l. e i l ∙ sym (bit_zero i))
