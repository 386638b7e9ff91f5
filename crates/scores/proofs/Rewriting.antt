-- S1: what is accepted and written again is the same bytes. The scores' bytes and the trailer's are those that they were
-- read from. Assumes nothing.
use mathlib.Core.Path.{◌≡◌, refl, sym, ◌∙◌, ap, ap₂}
use mathlib.Core.Bool.{true}
use mathlib.Core.Logic.{◌⊎◌, inl, inr}
use mathlib.Core.List.{List, [], ◌∷◌, ◌++◌}
use Prim.Native.Nat.{ℕ, ◌+◌, ◌*◌, ◌-◌, ◌/◌, ◌%◌, ◌≤◌, ◌<◌}
use native.Mathlib.Omega.{arith}
use lib.ListN.{length, get_or, take, drop, length-drop, take-append-drop}
use lib.Seq.{ext_get_or, take_at, take-add, take_all, get_or-take, get_or-drop, drop-drop, length-take-le}
use lib.IntN.{ℤ, pos}
use mir.Syntax.{w16}
use mir.Val.{of_z, to_z, Fits}
use mir.ValLaws.{of_z-to_z}
use borrow.Author.Tests.{eq-eqb, le-ltb}
use Rattle.bits.proofs.Truth.{below, not_off}
use Rattle.std.specs.Prelude.{Result, Ok}
use Rattle.graph.specs.declared.Refusal.{Refusal}
use Rattle.graph.specs.declared.Refusal.TheVariants.{TooManyVertices, WrongLength}
use Rattle.graph.specs.Refusal.{first_of}
use Rattle.graph.specs.Check.{too_many}
use Rattle.scores.specs.declared.Trailer.{Trailer}
use Rattle.scores.specs.Scale.{on_scale, half, scores_off}
use Rattle.scores.specs.Drawing.{wrong_count}
use Rattle.scores.specs.Sheet.{low_first, signed_bytes, score_bytes, trailer, sheet_bytes, sheet_length, field, notes_of, size_of, threshold_of, score_at, scores_of, AreBytes}
use Rattle.scores.specs.Reader as reader
use Rattle.scores.specs.Writer as writer
use Rattle.scores.proofs.Places.{half_twice}
use Rattle.scores.proofs.Squares.{length_each, each_at}
use Rattle.scores.proofs.Fields.{field_back, field_two}
use Rattle.scores.proofs.Puts.{length_scores, low_byte, high_byte}
use Rattle.scores.proofs.ScoreFaults.{scores_next}
use Rattle.scores.proofs.Sheets.{Laid, sound}
use Rattle.scores.proofs.Checking.{done, pass, fine_first}
use Rattle.scores.proofs.Readings.{shown_all}
use Rattle.scores.proofs.Writings.{scale_decides, wrote}
use Rattle.scores.proofs.Determined.{writing_determined}

notes_is : (sheet : List ℕ) → notes_of sheet ≡ field sheet (length sheet - 8) 4
unfolding notes_of
notes_is sheet = refl

size_is : (sheet : List ℕ) → size_of sheet ≡ field sheet (length sheet - 4) 2
unfolding size_of
size_is sheet = refl

module _ (sheet : List ℕ) (bytes : AreBytes sheet) (ok : Laid sheet) where
  abbrev p : ℕ
  p = notes_of sheet

  abbrev n : ℕ
  n = size_of sheet

  abbrev m : ℕ
  m = half (size_of sheet)

  abbrev q : ℕ
  q = notes_of sheet + 2 * half (size_of sheet)

  long : length sheet ≡ q + 8
  long = ok.long ∙ omega (arith, half_twice n)

  abbrev scores : List ℤ
  scores = scores_of sheet

  length_read : length scores ≡ m
  unfolding scores_of
  length_read = length_each m (score_at sheet p)

  -- the two bytes of a score that was read
  two_bytes : (k : ℕ) → k < m → of_z w16 (get_or scores k (pos 0)) ≡ get_or sheet (p + 2 * k) 0 + 256 * get_or sheet (p + 2 * k + 1) 0
  unfolding scores_of score_at
  two_bytes k h =
      let b₀ = bytes (p + 2 * k) in
      let b₁ = bytes (p + 2 * k + 1) in
      let e = field_two sheet (p + 2 * k) (omega (arith, long)) in
      let f : Fits w16 (field sheet (p + 2 * k) 2) = record { fits = omega arith } in
      ap (of_z w16) (each_at m (score_at sheet p) k (pos 0) h) ∙ of_z-to_z w16 (field sheet (p + 2 * k) 2) f ∙ e

  byte_of : (i : ℕ) → i < 2 * m → get_or (score_bytes scores) i 0 ≡ get_or sheet (p + i) 0
  byte_of i h = go (below (i % 2) 1)
    where
      go : (i % 2 < 1) ⊎ (1 ≤ i % 2) → get_or (score_bytes scores) i 0 ≡ get_or sheet (p + i) 0
      go (inl even) =
          let k : ℕ = i / 2 in
          let e : i ≡ 2 * k = omega arith in
          let b₀ = bytes (p + 2 * k) in
          ap (λ (x : ℕ). get_or (score_bytes scores) x 0) e
          ∙ low_byte scores k (omega (arith, length_read))
          ∙ omega (arith, two_bytes k (omega arith))
          ∙ ap (λ (x : ℕ). get_or sheet (p + x) 0) (sym e)
      go (inr odd) =
          let k : ℕ = i / 2 in
          let e : i ≡ 2 * k + 1 = omega arith in
          let at : p + 2 * k + 1 ≡ p + i = omega arith in
          let b₀ = bytes (p + 2 * k) in
          let b₁ = bytes (p + 2 * k + 1) in
          ap (λ (x : ℕ). get_or (score_bytes scores) x 0) e
          ∙ high_byte scores k (omega (arith, length_read))
          ∙ omega (arith, two_bytes k (omega arith))
          ∙ ap (λ (x : ℕ). get_or sheet x 0) at

  scores_again : score_bytes scores ≡ take (2 * m) (drop p sheet)
  scores_again =
      let l : length (take (2 * m) (drop p sheet)) ≡ 2 * m = length-take-le (2 * m) (drop p sheet) (omega (arith, length-drop p sheet, long)) in
      let s : length (score_bytes scores) ≡ 2 * m = length_scores scores ∙ ap (λ (x : ℕ). 2 * x) length_read in
      ext_get_or 0 (score_bytes scores) (take (2 * m) (drop p sheet)) (s ∙ sym l) (λ i h.
      let k : i < 2 * m = omega arith in
      byte_of i k ∙ sym (get_or-take (2 * m) (drop p sheet) i 0 k ∙ get_or-drop p sheet i 0))

  -- the trailer
  part : (at k : ℕ) → at + k ≤ length sheet → low_first k (field sheet at k) ≡ take k (drop at sheet)
  part at k h = field_back sheet at k bytes h

  threshold_again : signed_bytes (threshold_of sheet) ≡ take 2 (drop (q + 6) sheet)
  unfolding signed_bytes threshold_of
  threshold_again =
      let at : length sheet - 2 ≡ q + 6 = omega (arith, long) in
      let e = field_two sheet (q + 6) (omega (arith, long)) in
      let b₀ = bytes (q + 6) in
      let b₁ = bytes (q + 6 + 1) in
      let f : Fits w16 (field sheet (q + 6) 2) = record { fits = omega arith } in
      ap (λ (x : ℕ). low_first 2 (of_z w16 (to_z w16 (field sheet x 2)))) at
      ∙ ap (low_first 2) (of_z-to_z w16 (field sheet (q + 6) 2) f)
      ∙ part (q + 6) 2 (omega (arith, long))

  notes_again : low_first 4 p ≡ take 4 (drop q sheet)
  notes_again = notes_field ∙ ap (λ (x : ℕ). low_first 4 (field sheet x 4)) at ∙ part q 4 (omega (arith, long))
    where
      at : length sheet - 8 ≡ q
      at = omega (arith, long)

      notes_field : low_first 4 p ≡ low_first 4 (field sheet (length sheet - 8) 4)
      notes_field = ap (low_first 4) (notes_is sheet)

  size_again : low_first 2 n ≡ take 2 (drop (q + 4) sheet)
  size_again =
      let at : length sheet - 4 ≡ q + 4 = omega (arith, long) in
      ap (low_first 2) (size_is sheet) ∙ ap (λ (x : ℕ). low_first 2 (field sheet x 2)) at ∙ part (q + 4) 2 (omega (arith, long))

  eight : (l : List ℕ) → length l ≡ 8 → take 4 l ++ take 2 (drop 4 l) ++ take 2 (drop 6 l) ≡ l
  eight l h =
      ap (λ x. take 4 l ++ take 2 (drop 4 l) ++ x) (take_all 2 (drop 6 l) (omega (arith, length-drop 6 l)))
      ∙ ap (λ x. x ++ drop 6 l) (sym (take-add 4 2 l))
      ∙ take-append-drop 6 l

  trailer_again : trailer p n (threshold_of sheet) ≡ drop q sheet
  unfolding trailer
  trailer_again =
      ap (λ x. x ++ low_first 2 n ++ signed_bytes (threshold_of sheet)) notes_again
      ∙ ap₂ (λ x y. take 4 (drop q sheet) ++ x ++ y)
      (size_again ∙ ap (take 2) (sym (drop-drop 4 q sheet)))
      (threshold_again ∙ ap (take 2) (sym (drop-drop 6 q sheet)))
      ∙ eight (drop q sheet) (length-drop q sheet ∙ omega (arith, long))

  pub rewritten : sheet_bytes (take p sheet) scores n (threshold_of sheet) ≡ sheet
  unfolding sheet_bytes
  rewritten =
      let e : length (take p sheet) ≡ p = length-take-le p sheet (omega (arith, long)) in
      ap₂ (λ x y. (take p sheet ++ x) ++ y) scores_again (ap (λ (x : ℕ). trailer x n (threshold_of sheet)) e ∙ trailer_again)
      ∙ ap (λ x. x ++ drop q sheet) (sym (take-add p (2 * m) sheet))
      ∙ take-append-drop q sheet

-- the reader refused nothing
unrefused_sheet : (sheet : List ℕ) (out : List ℤ) → Ok tt ≡ first_of (reader.checks sheet out) → Ok tt ≡ reader.sheet_fault sheet
unfolding reader.checks
unrefused_sheet sheet out e = (fine_first (reader.sheet_fault sheet) (reader.no_room out (size_of sheet) ∷ []) e).0

-- the writer takes what was read
writes :
    (sheet : List ℕ) (notes : List ℕ) (scores : List ℤ) (n : ℕ) (t : ℤ) → n ≤ 128 → length scores ≡ half n → length notes ≤ 32768 →
    on_scale t ≡ true → Ok tt ≡ scores_off n scores → Ok tt ≡ writer.write_fault notes scores n t
unfolding too_many wrong_count
writes sheet notes scores n t few count short on fine =
    let counts : Ok tt ≡ first_of (too_many n ∷ wrong_count scores n ∷ []) =
    done ∙ pass WrongLength [] (not_off (eq-eqb _ _ count)) ∙ pass TooManyVertices (wrong_count scores n ∷ []) (le-ltb 128 n few) in
    scale_decides notes scores n t counts short (scores_next n scores t on fine)

again :
    (sheet : List ℕ) → AreBytes sheet →
    Laid sheet × (on_scale (threshold_of sheet) ≡ true) × (Ok tt ≡ scores_off (size_of sheet) (scores_of sheet)) → (buf : List ℕ) →
    length sheet ≤ length buf → {r : Result ℕ Refusal} {after : List ℕ} →
    writer.Promise (take (notes_of sheet) sheet) (scores_of sheet) (size_of sheet) (threshold_of sheet) buf r after →
    (r ≡ Ok (length sheet)) × (after ≡ sheet ++ drop (length sheet) buf)
again sheet bytes ok buf room {r} {after} w =
    let laid = ok.0 in
    let notes : List ℕ = take (notes_of sheet) sheet in
    let e : length notes ≡ notes_of sheet = length-take-le (notes_of sheet) sheet (omega (arith, laid.long)) in
    let size : length sheet ≡ sheet_length (length notes) (size_of sheet) = laid.long ∙ sym (ap (λ (x : ℕ). sheet_length x (size_of sheet)) e) in
    let same = rewritten sheet bytes laid in
    let fine = writes sheet notes (scores_of sheet) (size_of sheet) (threshold_of sheet) laid.few (length_read sheet bytes laid) (omega (arith, laid.short)) ok.1 ok.2 in
    let mine : writer.Promise notes (scores_of sheet) (size_of sheet) (threshold_of sheet) buf (Ok (length sheet)) (sheet ++ drop (length sheet) buf) =
    wrote notes (scores_of sheet) (size_of sheet) (threshold_of sheet) buf fine size room refl
    (ap₂ (λ x (k : ℕ). x ++ drop k buf) (sym same) size) in
    writing_determined notes (scores_of sheet) (size_of sheet) (threshold_of sheet) buf w mine

-- what the reader and the notes promise, written again
pub read_write :
    (sheet : List ℕ) → AreBytes sheet → (out : List ℤ) {h : Trailer} {list : List ℤ} →
    reader.Promise sheet out (Ok h) list → (buf : List ℕ) → length sheet ≤ length buf → {r : Result ℕ Refusal} {after : List ℕ} →
    writer.Promise (reader.shown sheet) (take (half h.n) list) h.n h.t buf r after →
    (r ≡ Ok (length sheet)) × (after ≡ sheet ++ drop (length sheet) buf)
read_write sheet bytes out {h} {list} got buf room {r} {after} w =
    let fine = unrefused_sheet sheet out got.refused in
    let ok = sound sheet fine in
    let laid = ok.0 in
    let notes_are : reader.shown sheet ≡ take (notes_of sheet) sheet = sym (shown_all sheet fine) in
    let scores_are : take (half h.n) list ≡ scores_of sheet =
    ap₂ take (ap half got.meant.size) got.meant.scores
    ∙ take_at (scores_of sheet) (drop (half (size_of sheet)) out) (half (size_of sheet)) (length_read sheet bytes laid) in
    let w' : writer.Promise (take (notes_of sheet) sheet) (scores_of sheet) (size_of sheet) (threshold_of sheet) buf r after =
    rw (notes_are, scores_are, got.meant.size, got.meant.threshold) at w in
    again sheet bytes ok buf room w'
