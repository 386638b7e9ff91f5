-- What the writers of a sheet's parts put down, byte by byte. Assumes nothing.
use mathlib.Core.Path.{◌≡◌, refl, sym, ◌∙◌, ap, ap₂}
use mathlib.Core.List.{List, [], ◌∷◌, ◌++◌}
use Prim.Native.Nat.{ℕ, zero, suc, ◌+◌, ◌*◌, ◌/◌, ◌%◌, ◌<◌}
use native.Mathlib.Numerals.{add-one}
use native.Mathlib.Omega.{arith}
use lib.ListN.{length, get_or, take, drop, length-append}
use lib.Seq.{paste, length-take-le}
use lib.IntN.{ℤ, pos}
use mir.Syntax.{w16, w32}
use mir.Val.{of_z}
use borrow.Rule.Slice.PartMut.{put_mid}
use Rattle.std.specs.Int.{to_le_bytes}
use Rattle.scores.specs.Sheet.{low_first, signed_bytes, score_bytes, trailer}
use Rattle.scores.proofs.Fields.{length_low}
use Rattle.scores.proofs.Pasting.{pasted}
use Rattle.scores.proofs.Growing.{grown_by}

pub length_scores : (xs : List ℤ) → length (score_bytes xs) ≡ 2 * length xs
unfolding score_bytes signed_bytes
length_scores [] = omega arith
length_scores (x ∷ xs) =
    length-append (low_first 2 (of_z w16 x)) (score_bytes xs)
    ∙ omega (arith, length_low 2 (of_z w16 x), length_scores xs)

pub length_trailer : (p n : ℕ) (t : ℤ) → length (trailer p n t) ≡ 8
unfolding trailer signed_bytes low_first
length_trailer p n t = refl

-- the two bytes of score k
pub low_byte : (xs : List ℤ) (k : ℕ) → k < length xs → get_or (score_bytes xs) (2 * k) 0 ≡ of_z w16 (get_or xs k (pos 0)) % 256
unfolding score_bytes signed_bytes low_first
low_byte [] k h = absurd (omega arith)
low_byte (x ∷ xs) zero h = refl
low_byte (x ∷ xs) (suc k) h =
    let e : 2 * suc k ≡ suc (suc (2 * k)) = omega arith in
    ap (λ (i : ℕ). get_or (score_bytes (x ∷ xs)) i 0) e ∙ low_byte xs k (omega arith)

pub high_byte : (xs : List ℤ) (k : ℕ) → k < length xs → get_or (score_bytes xs) (2 * k + 1) 0 ≡ of_z w16 (get_or xs k (pos 0)) / 256 % 256
unfolding score_bytes signed_bytes low_first
high_byte [] k h = absurd (omega arith)
high_byte (x ∷ xs) zero h = refl
high_byte (x ∷ xs) (suc k) h =
    let e : 2 * suc k + 1 ≡ suc (suc (2 * k + 1)) = omega arith in
    ap (λ (i : ℕ). get_or (score_bytes (x ∷ xs)) i 0) e ∙ high_byte xs k (omega arith)

-- one more score
pub more_scores :
    (xs : List ℤ) (k : ℕ) → k < length xs → score_bytes (take k xs) ++ signed_bytes (get_or xs k (pos 0)) ≡ score_bytes (take (suc k) xs)
unfolding score_bytes signed_bytes low_first
more_scores [] k h = absurd (omega arith)
more_scores (x ∷ xs) zero h = refl
more_scores (x ∷ xs) (suc k) h =
    ap (λ l. of_z w16 x % 256 ∷ of_z w16 x / 256 % 256 ∷ l) (more_scores xs k (omega arith))

pub one_score :
    (old : List ℕ) (xs : List ℤ) (k : ℕ) → k < length xs → {now s : List ℕ} → now ≡ score_bytes (take k xs) ++ drop (2 * k) old →
    s ≡ signed_bytes (get_or xs k (pos 0)) → {m : ℕ} → m ≡ 2 →
    put_mid (2 * k) m now s ≡ score_bytes (take (k + 1) xs) ++ drop (2 * (k + 1)) old
one_score old xs k h {now} {s} so_far e {m} two =
    let front : length (score_bytes (take k xs)) ≡ 2 * k =
    length_scores (take k xs) ∙ ap (λ (x : ℕ). 2 * x) (length-take-le k xs (omega arith)) in
    let next : 2 * k + m ≡ 2 * (k + 1) = omega arith in
    let more : score_bytes (take k xs) ++ s ≡ score_bytes (take (k + 1) xs) =
    ap (λ l. score_bytes (take k xs) ++ l) e ∙ more_scores xs k h ∙ ap (λ (x : ℕ). score_bytes (take x xs)) (sym (add-one k)) in
    grown_by old (score_bytes (take k xs)) s (2 * k) m front so_far ∙ ap₂ (λ l (x : ℕ). l ++ drop x old) more next

-- four bytes of a number as the kit writes them
pub four_bytes : (p : ℕ) → to_le_bytes w32 p ≡ low_first 4 p
unfolding low_first
four_bytes p =
    let third : p / 65536 % 256 ≡ p / 256 / 256 % 256 = omega arith in
    let fourth : p / 16777216 % 256 ≡ p / 256 / 256 / 256 % 256 = omega arith in
    cc

-- the trailer, part behind part
pub put_all :
    (buf : List ℕ) (p n : ℕ) (t : ℤ) {a b d : List ℕ} → a ≡ low_first 4 p → b ≡ low_first 2 n → d ≡ signed_bytes t →
    put_mid 6 2 (put_mid 4 2 (a ++ drop 4 buf) b) d ≡ paste buf 0 (trailer p n t) 8
unfolding trailer
put_all buf p n t {a} {b} {d} ea eb ed =
    let four : length a ≡ 4 = ap length ea ∙ length_low 4 p in
    let six : length (a ++ b) ≡ 6 = length-append a b ∙ omega (arith, ap length eb ∙ length_low 2 n) in
    let same : (a ++ b) ++ d ≡ low_first 4 p ++ low_first 2 n ++ signed_bytes t = cc in
    let long : length (trailer p n t) ≡ 8 = length_trailer p n t in
    grown_by buf (a ++ b) d 6 2 six (grown_by buf a b 4 2 four refl)
    ∙ ap (λ l. l ++ drop 8 buf) same
    ∙ sym (pasted buf (trailer p n t) 8 long)
