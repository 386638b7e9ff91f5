-- The checks of a sheet, one lemma for each return of the reader, and what a sheet is that they pass. Assumes nothing.
use mathlib.Core.Path.{◌≡◌, refl, sym, ◌∙◌, ap}
use mathlib.Core.Logic.{◌≢◌}
use mathlib.Core.Bool.{Bool, true, false, not}
use mathlib.Core.List.{List, [], ◌∷◌}
use Prim.Native.Nat.{ℕ, ◌+◌, ◌*◌, ◌≤◌, ◌<◌}
use native.Mathlib.Omega.{arith}
use lib.ListN.{length, get_or}
use lib.Dec.{ltb, eqb}
use lib.IntN.{ℤ, pos}
use borrow.Author.Tests.{lt-ltb, le-ltb, ltb-false, eq-eqb, ne_eqb, eqb-true, not-false}
use Rattle.bits.proofs.Truth.{not_in, not_off, or_left, or_right, or_off, or_off_left, or_off_right}
use Rattle.std.specs.Prelude.{Ok, Err}
use Rattle.graph.specs.declared.Refusal.{Refusal}
use Rattle.graph.specs.declared.Refusal.TheVariants.{TooManyVertices, OffScale, BadSheet}
use Rattle.graph.specs.Refusal.{Finding, row, first_of}
use Rattle.graph.specs.Check.{too_many}
use Rattle.graph.proofs.Refusals.{first_of_single}
use Rattle.scores.specs.declared.Trailer.{Trailer}
use Rattle.scores.specs.Inner.{trailer_of}
use Rattle.scores.specs.Scale.{on_scale, half, threshold_off, scores_off}
use Rattle.scores.specs.Sheet.{sheet_length, notes_of, size_of, threshold_of, score_at, scores_of}
use Rattle.scores.specs.Reader.{wrong_layout, layout_fault, sheet_fault}
use Rattle.scores.proofs.Places.{half_twice}
use Rattle.scores.proofs.Squares.{each_at}
use Rattle.scores.proofs.ScoreFaults.{both_on, threshold_fault}
use Rattle.scores.proofs.Checking.{hit, pass, done, fine_out, fine_first, decided, left_over}

-- the length, and p
module _ (sheet : List ℕ) (p n : ℕ) where
  pub too_much : 32768 < p → wrong_layout sheet p n ≡ true
  unfolding wrong_layout
  too_much h = or_left (not (eqb (length sheet) (sheet_length p n))) (lt-ltb 32768 p h)

  pub other_length : length sheet ≢ sheet_length p n → wrong_layout sheet p n ≡ true
  unfolding wrong_layout
  other_length h = or_right (ltb 32768 p) (not_in (ne_eqb (length sheet) (sheet_length p n) h))

  pub right_length : p ≤ 32768 → length sheet ≡ sheet_length p n → wrong_layout sheet p n ≡ false
  unfolding wrong_layout
  right_length h e = or_off (le-ltb 32768 p h) (not_off (eq-eqb (length sheet) (sheet_length p n) e))

module _ (sheet : List ℕ) where
  abbrev layouts : List Finding
  layouts = row BadSheet (wrong_layout sheet (notes_of sheet) (size_of sheet)) ∷ []

  abbrev sizes : List Finding
  sizes = too_many (size_of sheet) ∷ layouts

  pub no_trailer : length sheet < 8 → Err BadSheet ≡ layout_fault sheet
  unfolding layout_fault
  no_trailer h = hit BadSheet sizes (lt-ltb _ _ h)

  pub size_off : 8 ≤ length sheet → 128 < size_of sheet → Err TooManyVertices ≡ layout_fault sheet
  unfolding layout_fault too_many
  size_off h k = hit TooManyVertices layouts (lt-ltb _ _ k) ∙ pass BadSheet sizes (le-ltb _ _ h)

  module _ (h : 8 ≤ length sheet) (k : size_of sheet ≤ 128) where
    pub layout_off : wrong_layout sheet (notes_of sheet) (size_of sheet) ≡ true → Err BadSheet ≡ layout_fault sheet
    unfolding layout_fault too_many
    layout_off w = hit BadSheet [] w ∙ pass TooManyVertices layouts (le-ltb _ _ k) ∙ pass BadSheet sizes (le-ltb _ _ h)

    pub laid_out : wrong_layout sheet (notes_of sheet) (size_of sheet) ≡ false → Ok tt ≡ layout_fault sheet
    unfolding layout_fault too_many
    laid_out w = done ∙ pass BadSheet [] w ∙ pass TooManyVertices layouts (le-ltb _ _ k) ∙ pass BadSheet sizes (le-ltb _ _ h)

  -- a sheet whose layout is right
  pub record Laid : Type 0 where
    pub trailed : 8 ≤ length sheet
    pub few : size_of sheet ≤ 128
    pub short : notes_of sheet ≤ 32768
    pub long : length sheet ≡ sheet_length (notes_of sheet) (size_of sheet)

  pub laid : Ok tt ≡ layout_fault sheet → Laid
  unfolding layout_fault too_many wrong_layout
  laid e =
      let a = fine_out BadSheet (ltb (length sheet) 8) sizes e in
      let b = fine_out TooManyVertices (ltb 128 (size_of sheet)) layouts a.1 in
      let other : Bool = not (eqb (length sheet) (sheet_length (notes_of sheet) (size_of sheet))) in
      let w = (fine_out BadSheet (wrong_layout sheet (notes_of sheet) (size_of sheet)) [] b.1).0 in
      record {
        trailed = ltb-false _ _ a.0;
        few = ltb-false _ _ b.0;
        short = ltb-false _ _ (or_off_left (ltb 32768 (notes_of sheet)) other w);
        long = eqb-true _ _ (not-false _ (or_off_right (ltb 32768 (notes_of sheet)) other w));
      }

  abbrev scales : List Finding
  scales = threshold_off (threshold_of sheet) ∷ scores_off (size_of sheet) (scores_of sheet) ∷ []

  pub layout_refused : {r : Refusal} → Err r ≡ layout_fault sheet → Err r ≡ sheet_fault sheet
  unfolding sheet_fault
  layout_refused e = decided (layout_fault sheet ∷ []) scales refl (e ∙ sym (first_of_single (layout_fault sheet)))

  pub scale_decides : Ok tt ≡ layout_fault sheet → {x : Finding} → x ≡ first_of scales → x ≡ sheet_fault sheet
  unfolding sheet_fault
  scale_decides right e = e ∙ left_over (layout_fault sheet ∷ []) scales (right ∙ sym (first_of_single (layout_fault sheet)))

  pub threshold_off_lem : Ok tt ≡ layout_fault sheet → on_scale (threshold_of sheet) ≡ false → Err (OffScale 0 0) ≡ sheet_fault sheet
  threshold_off_lem right h = scale_decides right (threshold_fault (size_of sheet) (scores_of sheet) (threshold_of sheet) h)

  -- what the reader would refuse for nothing but room: layout, threshold and scores are right
  pub sound : Ok tt ≡ sheet_fault sheet → Laid × (on_scale (threshold_of sheet) ≡ true) × (Ok tt ≡ scores_off (size_of sheet) (scores_of sheet))
  unfolding sheet_fault
  sound e =
      let a = fine_first (layout_fault sheet) scales e in
      let b = both_on (size_of sheet) (scores_of sheet) (threshold_of sheet) a.1 in
      (laid a.0, b.0, b.1)

-- what the reader makes of its trailer h: the k-th score lies in a sheet whose layout is right, and is the k-th of its scores;
-- and the checks of the scale are those of the sheet
module _ (sheet : List ℕ) {h : Trailer} (same : h ≡ trailer_of sheet) where
  pub score_inside : Ok tt ≡ layout_fault sheet → {k : ℕ} → k < half h.n → h.p + 2 * k + 2 ≤ length sheet
  score_inside right {k} few =
      let few_there : k < half (size_of sheet) = rw same at few in
      let p : h.p ≡ notes_of sheet = ap (λ (x : Trailer). x.p) same in
      omega (arith, (laid sheet right).long, half_twice (size_of sheet))

  pub score_listed : {k : ℕ} {s : ℤ} → k < half h.n → s ≡ score_at sheet h.p k → s ≡ get_or (scores_of sheet) k (pos 0)
  unfolding scores_of
  score_listed {k} few e =
      rw same at e ∙ sym (each_at (half (size_of sheet)) (score_at sheet (notes_of sheet)) k (pos 0) (rw same at few))

  pub scale_told :
      Ok tt ≡ layout_fault sheet → {z : ℤ} {x : Finding} → z ≡ h.t →
      x ≡ first_of (threshold_off z ∷ scores_off h.n (scores_of sheet) ∷ []) → x ≡ sheet_fault sheet
  scale_told right t e =
      scale_decides sheet right
      (e ∙ ap (λ (z : ℤ). first_of (threshold_off z ∷ scores_off h.n (scores_of sheet) ∷ [])) t
      ∙ ap (λ (y : Trailer). first_of (threshold_off y.t ∷ scores_off y.n (scores_of sheet) ∷ [])) same)
