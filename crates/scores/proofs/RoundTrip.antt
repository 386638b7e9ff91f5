-- S2: what is written reads back to the same p, n, t, scores and notes. The trailer's fields stand behind known parts, and
-- the scores are read byte by byte. Assumes nothing.
use mathlib.Core.Path.{◌≡◌, refl, sym, ◌∙◌, ap}
use mathlib.Core.Bool.{true}
use mathlib.Core.List.{List, [], ◌∷◌, ◌++◌, append_assoc, append-nil}
use Prim.Native.Nat.{ℕ, ◌+◌, ◌*◌, ◌-◌, ◌≤◌, ◌<◌}
use native.Mathlib.Omega.{arith}
use lib.ListN.{length, get_or, take, drop, length-append, get_or-append}
use lib.Seq.{paste, ext_get_or, take_at, get_or-append-add}
use lib.IntN.{ℤ, pos}
use mir.Syntax.{w16}
use mir.Val.{of_z, to_z, SFits}
use mir.ValLaws.{to_z-of_z, of_z_fits}
use Rattle.std.specs.Prelude.{Result, Ok}
use Rattle.graph.specs.declared.Refusal.{Refusal}
use Rattle.graph.specs.Each.{each}
use Rattle.graph.specs.Refusal.{first_of}
use Rattle.graph.specs.Check.{too_short}
use Rattle.scores.specs.Scale.{on_scale, half, scores_off}
use Rattle.scores.specs.Sheet.{low_first, signed_bytes, score_bytes, trailer, sheet_bytes, sheet_length, field, notes_of, size_of, threshold_of, score_at, scores_of}
use Rattle.scores.specs.declared.Trailer.{Trailer}
use Rattle.scores.specs.Inner.{scores_in, trailer_of}
use Rattle.scores.specs.Reader as reader
use Rattle.scores.specs.Writer as writer
use Rattle.scores.proofs.Checking.{fine_first}
use Rattle.scores.proofs.ScoreFaults.{each_on, scores_next, both_on}
use Rattle.scores.proofs.Places.{half_twice}
use Rattle.scores.proofs.OnScale.{on_fits}
use Rattle.scores.proofs.Squares.{length_each, each_at}
use Rattle.scores.proofs.Fields.{length_low, field_at, field_two}
use Rattle.scores.proofs.Puts.{length_scores, length_trailer, low_byte, high_byte}
use Rattle.scores.proofs.Sheets.{right_length, laid_out, scale_decides}
use Rattle.scores.proofs.Readings.{read_all, shown_all}
use Rattle.scores.proofs.Writings.{writable}
use Rattle.scores.proofs.Determined.{reading_determined}

module _
    (notes : List ℕ)
    (scores : List ℤ)
    (n : ℕ)
    (t : ℤ)
    (few : n ≤ 128)
    (count : length scores ≡ half n)
    (short : length notes ≤ 32768)
    (on-t : on_scale t ≡ true)
    (on : Ok tt ≡ scores_off n scores) where
  abbrev p : ℕ
  p = length notes

  abbrev sheet : List ℕ
  sheet = sheet_bytes notes scores n t

  abbrev front : List ℕ
  front = notes ++ score_bytes scores

  length_front : length front ≡ p + 2 * length scores
  length_front = length-append notes (score_bytes scores) ∙ omega (arith, length_scores scores)

  pub length_sheet : length sheet ≡ sheet_length p n
  unfolding sheet_bytes
  length_sheet =
      length-append front (trailer p n t) ∙ omega (arith, length_front, length_trailer p n t, half_twice n)

  behind : length front ≡ length sheet - 8
  behind = omega (arith, length_front, length_sheet, half_twice n)

  fits_t : SFits w16 t
  fits_t = on_fits t on-t

  -- the trailer's fields
  pub notes_back : notes_of sheet ≡ p
  unfolding notes_of sheet_bytes trailer
  notes_back =
      ap (λ l. field (front ++ l) (length sheet - 8) 4) (append_assoc (low_first 4 p) (low_first 2 n) (signed_bytes t))
      ∙ field_at front 4 p (low_first 2 n ++ signed_bytes t) (length sheet - 8) behind (omega arith)

  pub size_back : size_of sheet ≡ n
  unfolding size_of sheet_bytes trailer
  size_back =
      let at : length (front ++ low_first 4 p) ≡ length sheet - 4 =
      length-append front (low_first 4 p) ∙ omega (arith, length_front, length_sheet, half_twice n, length_low 4 p) in
      ap (λ l. field l (length sheet - 4) 2)
      (ap (λ l. front ++ l) (append_assoc (low_first 4 p) (low_first 2 n) (signed_bytes t))
      ∙ sym (append_assoc front (low_first 4 p) (low_first 2 n ++ signed_bytes t)))
      ∙ field_at (front ++ low_first 4 p) 2 n (signed_bytes t) (length sheet - 4) at (omega arith)

  pub threshold_back : threshold_of sheet ≡ t
  unfolding threshold_of sheet_bytes trailer signed_bytes
  threshold_back =
      let v : ℕ = of_z w16 t in
      let head : List ℕ = front ++ (low_first 4 p ++ low_first 2 n) in
      let at : length head ≡ length sheet - 2 =
      length-append front (low_first 4 p ++ low_first 2 n)
      ∙ omega (arith, length-append (low_first 4 p) (low_first 2 n), length_front, length_sheet, half_twice n, length_low 4 p, length_low 2 n) in
      let small : v < 65536 = (of_z_fits w16 t fits_t).fits in
      ap (to_z w16)
      (ap (λ l. field l (length sheet - 2) 2)
      (sym (append_assoc front (low_first 4 p ++ low_first 2 n) (low_first 2 v)) ∙ ap (λ l. head ++ l) (sym (append-nil (low_first 2 v))))
      ∙ field_at head 2 v [] (length sheet - 2) at (omega arith))
      ∙ to_z-of_z w16 t fits_t

  -- the scores, byte by byte
  byte_back : (i : ℕ) → i < 2 * length scores → get_or sheet (p + i) 0 ≡ get_or (score_bytes scores) i 0
  unfolding sheet_bytes
  byte_back i h =
      get_or-append front (trailer p n t) 0 (p + i) (omega (arith, length_front))
      ∙ get_or-append-add notes (score_bytes scores) i 0

  score_back : (k : ℕ) → k < length scores → score_at sheet p k ≡ get_or scores k (pos 0)
  unfolding score_at
  score_back k h =
      let z : ℤ = get_or scores k (pos 0) in
      let v : ℕ = of_z w16 z in
      let fits : SFits w16 z = on_fits z (each_on n scores on k (omega arith)) in
      let small : v < 65536 = (of_z_fits w16 z fits).fits in
      let low = byte_back (2 * k) (omega arith) ∙ low_byte scores k h in
      let next : p + 2 * k + 1 ≡ p + (2 * k + 1) = omega arith in
      let high = ap (λ (i : ℕ). get_or sheet i 0) next ∙ byte_back (2 * k + 1) (omega arith) ∙ high_byte scores k h in
      let e : field sheet (p + 2 * k) 2 ≡ v =
      field_two sheet (p + 2 * k) (omega (arith, length_sheet, half_twice n)) ∙ omega (arith, low, high) in
      ap (to_z w16) e ∙ to_z-of_z w16 z fits

  pub scores_back : scores_of sheet ≡ scores
  unfolding scores_of
  scores_back =
      ap (λ (m : ℕ). each (half m) (λ k. score_at sheet (notes_of sheet) k ∷ [])) size_back
      ∙ ap (λ (m : ℕ). each (half n) (λ k. score_at sheet m k ∷ [])) notes_back
      ∙ ext_get_or (pos 0) (each (half n) (λ k. score_at sheet p k ∷ [])) scores (length_each (half n) (score_at sheet p) ∙ sym count) (λ k h.
      let l : k < half n = omega (arith, length_each (half n) (score_at sheet p)) in
      each_at (half n) (score_at sheet p) k (pos 0) l ∙ score_back k (omega arith))

  -- the reader takes it
  pub fine_back : Ok tt ≡ reader.sheet_fault sheet
  fine_back =
      let long : length sheet ≡ sheet_length (notes_of sheet) (size_of sheet) = rw (notes_back, size_back) length_sheet in
      let room : 8 ≤ length sheet = omega (arith, length_sheet) in
      let small : size_of sheet ≤ 128 = omega (arith, size_back) in
      let right = laid_out sheet room small (right_length sheet (notes_of sheet) (size_of sheet) (omega (arith, notes_back)) long) in
      scale_decides sheet right (scores_next (size_of sheet) (scores_of sheet) (threshold_of sheet) (ap on_scale threshold_back ∙ on-t) (rw (size_back, scores_back) on))

  pub notes_shown : reader.shown sheet ≡ notes
  unfolding sheet_bytes
  notes_shown =
      sym (shown_all sheet fine_back)
      ∙ ap (λ (k : ℕ). take k sheet) notes_back
      ∙ ap (λ l. take p l) (append_assoc notes (score_bytes scores) (trailer p n t))
      ∙ take_at notes (score_bytes scores ++ trailer p n t) p refl

-- the writer refused nothing
pub unrefused : (notes : List ℕ) (scores : List ℤ) (n : ℕ) (t : ℤ) (buf : List ℕ) → Ok tt ≡ first_of (writer.checks notes scores n t buf) → Ok tt ≡ writer.write_fault notes scores n t
unfolding writer.checks
unrefused notes scores n t buf e =
    (fine_first (writer.write_fault notes scores n t) (too_short buf (sheet_length (length notes) n) ∷ []) e).0

-- what the writer promises, the reader and the notes give back
pub write_read :
    (notes : List ℕ) (scores : List ℤ) (n : ℕ) (t : ℤ) (buf : List ℕ) {size : ℕ} {after : List ℕ} →
    writer.Promise notes scores n t buf (Ok size) after → (out : List ℤ) → half n ≤ length out → {r : Result Trailer Refusal} {list : List ℤ} →
    reader.Promise (take size after) out r list →
    (r ≡ Ok (record { p = length notes; n = n; t = t })) × (list ≡ scores ++ drop (half n) out) × (reader.shown (take size after) ≡ notes)
write_read notes scores n t buf {size} {after} w out room {r} {list} got =
    let ok = writable notes scores n t (unrefused notes scores n t buf w.refused) in
    let on = both_on n scores t ok.3 in
    let sheet : List ℕ = sheet_bytes notes scores n t in
    let sized = length_sheet notes scores n t ok.0 ok.1 ok.2 on.0 on.1 in
    let size_is = size_back notes scores n t ok.0 ok.1 ok.2 on.0 on.1 in
    let scores_are = scores_back notes scores n t ok.0 ok.1 ok.2 on.0 on.1 in
    let whole : take size after ≡ sheet =
    ap (take size) w.meant.1 ∙ take_at sheet (drop size buf) size (sized ∙ sym w.meant.0) in
    let h : Trailer = record { p = length notes; n = n; t = t } in
    let p_is = notes_back notes scores n t ok.0 ok.1 ok.2 on.0 on.1 in
    let t_is = threshold_back notes scores n t ok.0 ok.1 ok.2 on.0 on.1 in
    let same_h : h ≡ trailer_of sheet = (λ i. record { p = sym p_is i; n = sym size_is i; t = sym t_is i }) in
    let mine : reader.Promise sheet out (Ok h) (paste out 0 (scores_in sheet (length notes) n) (half n)) =
    read_all sheet out (fine_back notes scores n t ok.0 ok.1 ok.2 on.0 on.1) (rw size_is room)
    same_h refl in
    let same = reading_determined sheet out (rw whole at got) mine in (
      same.0,
      same.1 ∙ mine.meant.scores ∙ rw (size_is, scores_are) refl,
      ap reader.shown whole ∙ notes_shown notes scores n t ok.0 ok.1 ok.2 on.0 on.1,
    )
