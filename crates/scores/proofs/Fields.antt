-- Numbers in bytes, low byte first: writing and reading are inverse, and what the code computes at a place. Assumes nothing.
use mathlib.Core.Path.{◌≡◌, refl, sym, ◌∙◌, ap, ap₂}
use mathlib.Core.Logic.{◌⊎◌, inl, inr}
use mathlib.Core.List.{List, [], ◌∷◌, ◌++◌}
use Prim.Native.Nat.{ℕ, zero, suc, ◌+◌, ◌*◌, ◌/◌, ◌%◌, ◌^◌, ◌≤◌, ◌<◌}
use native.Mathlib.Nat.{pow-suc}
use native.Mathlib.Omega.{arith}
use lib.ListN.{length, get_or, take, drop, length-take, length-drop, get_or-eq_default}
use lib.Seq.{drop-cons, take_at, drop_at, get_or-take, get_or-drop, length-take-le}
use Rattle.bits.proofs.Truth.{below}
use Rattle.std.specs.Int.{w16, w32, from_le_bytes}
use Rattle.scores.specs.Sheet.{low_first, number, field, AreBytes}

pub length_low : (k v : ℕ) → length (low_first k v) ≡ k
unfolding low_first
length_low zero v = refl
length_low (suc k) v = ap suc (length_low k (v / 256))

-- the number of the bytes of a number
pub number_low : (k v : ℕ) → v < 256 ^ k → number (low_first k v) ≡ v
unfolding low_first number
number_low zero v h = omega arith
number_low (suc k) v h =
    let m : v < 256 ^ k * 256 = rw pow-suc at h in
    let e : number (low_first k (v / 256)) ≡ v / 256 = number_low k (v / 256) (omega arith) in
    omega arith

-- the bytes of the number of some bytes
pub low_number : (bs : List ℕ) → AreBytes bs → low_first (length bs) (number bs) ≡ bs
unfolding low_first number
low_number [] all = refl
low_number (b ∷ bs) all =
    let h : b < 256 = all 0 in
    let m : (b + 256 * number bs) % 256 ≡ b = omega arith in
    let d : (b + 256 * number bs) / 256 ≡ number bs = omega arith in
    ap₂ ◌∷◌ m (ap (low_first (length bs)) d ∙ low_number bs (λ k. all (suc k)))

bytes_drop : (n : ℕ) (xs : List ℕ) → AreBytes xs → AreBytes (drop n xs)
bytes_drop n xs all k = rw get_or-drop (all (n + k))

bytes_take : (n : ℕ) (xs : List ℕ) → AreBytes xs → AreBytes (take n xs)
bytes_take n xs all k = go (below k n)
  where
    go : (k < n) ⊎ (n ≤ k) → get_or (take n xs) k 0 < 256
    go (inl p) = rw (get_or-take n xs k 0 p) (all k)
    go (inr p) =
        let far : length (take n xs) ≤ k = omega (arith, length-take n xs) in
        rw (get_or-eq_default (take n xs) 0 far) (omega arith)

-- the bytes of a field are those that it was read from
pub field_back : (s : List ℕ) (at k : ℕ) → AreBytes s → at + k ≤ length s → low_first k (field s at k) ≡ take k (drop at s)
unfolding field
field_back s at k all h =
    let e : length (take k (drop at s)) ≡ k = length-take-le k (drop at s) (omega (arith, length-drop at s)) in
    ap (λ (m : ℕ). low_first m (number (take k (drop at s)))) (sym e)
    ∙ low_number (take k (drop at s)) (bytes_take k (drop at s) (bytes_drop at s all))

-- a field that stands behind a known part
pub field_at : (xs : List ℕ) (k v : ℕ) (ys : List ℕ) (at : ℕ) → length xs ≡ at → v < 256 ^ k → field (xs ++ (low_first k v ++ ys)) at k ≡ v
unfolding field
field_at xs k v ys at e h =
    ap (λ l. number (take k l)) (drop_at xs (low_first k v ++ ys) at e)
    ∙ ap number (take_at (low_first k v) ys k (length_low k v))
    ∙ number_low k v h

-- a field byte by byte: two bytes, and the field behind them
field_more :
    (s : List ℕ) (at k : ℕ) → at + 2 ≤ length s →
    field s at (suc (suc k)) ≡ get_or s at 0 + 256 * (get_or s (at + 1) 0 + 256 * field s (at + 2) k)
unfolding field number
field_more s at k h =
    let one : suc at ≡ at + 1 = omega arith in
    let two : suc (suc at) ≡ at + 2 = omega arith in
    ap (λ l. number (take (suc (suc k)) l)) (drop-cons s at 0 (omega arith))
    ∙ ap (λ l. number (get_or s at 0 ∷ take (suc k) l)) (drop-cons s (suc at) 0 (omega arith))
    ∙ ap (λ (x : ℕ). get_or s at 0 + 256 * (get_or s x 0 + 256 * number (take k (drop (suc (suc at)) s)))) one
    ∙ ap (λ (x : ℕ). get_or s at 0 + 256 * (get_or s (at + 1) 0 + 256 * number (take k (drop x s)))) two

field_none : (s : List ℕ) (at : ℕ) → field s at 0 ≡ 0
unfolding field number
field_none s at = refl

pub field_two : (s : List ℕ) (at : ℕ) → at + 2 ≤ length s → field s at 2 ≡ get_or s at 0 + 256 * get_or s (at + 1) 0
field_two s at h = field_more s at 0 h ∙ omega (arith, field_none s (at + 2))

pub field_four : (s : List ℕ) (at : ℕ) → at + 4 ≤ length s → field s at 4 ≡ field s at 2 + 65536 * field s (at + 2) 2
field_four s at h = field_more s at 2 (omega arith) ∙ omega (arith, field_two s at (omega arith))

-- what the kit reads from two and from four bytes
pub number_two : (bs : List ℕ) → length bs ≡ 2 → from_le_bytes w16 bs ≡ number bs
unfolding number
number_two (a ∷ b ∷ []) h = omega arith
number_two [] h = absurd (omega arith)
number_two (_ ∷ []) h = absurd (omega arith)
number_two (_ ∷ _ ∷ _ ∷ _) h = absurd (omega arith)

pub number_four : (bs : List ℕ) → length bs ≡ 4 → from_le_bytes w32 bs ≡ number bs
unfolding number
number_four (a ∷ b ∷ c ∷ d ∷ []) h = omega arith
number_four [] h = absurd (omega arith)
number_four (_ ∷ []) h = absurd (omega arith)
number_four (_ ∷ _ ∷ []) h = absurd (omega arith)
number_four (_ ∷ _ ∷ _ ∷ []) h = absurd (omega arith)
number_four (_ ∷ _ ∷ _ ∷ _ ∷ _ ∷ _) h = absurd (omega arith)
