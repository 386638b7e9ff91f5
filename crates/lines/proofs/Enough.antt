-- 131,072 bytes are room for the lines of every input: whoever lends as much is never refused. A refusal has small numbers,
-- and a repair has at most 8,128 pairs. Assumes nothing.
use mathlib.Core.Path.{◌≡◌, refl, sym, ◌∙◌, ap, subst}
use mathlib.Core.Logic.{◌⊎◌, inl, inr, ◌≢◌}
use mathlib.Core.Bool.{Bool, true, false}
use mathlib.Core.List.{List, [], ◌∷◌, ◌++◌}
use Prim.Native.Nat.{ℕ, zero, suc, ◌≤◌, ◌<◌}
use native.Mathlib.Omega.{arith}
use lib.ListN.{length}
use lib.IntN.{ℤ}
use lib.Dec.{ltb}
use borrow.Author.Tests.{le-ltb}
use Rattle.bits.specs.Choice.{pick}
use Rattle.bits.proofs.Truth.{and_left}
use Rattle.std.specs.Prelude.{Result, Ok, Err}
use Rattle.graph.specs.declared.Refusal.{Refusal}
use Rattle.graph.specs.declared.Refusal.TheVariants.{TooManyVertices, OffScale, NoRoom, BadSheet}
use Rattle.graph.specs.Each.{each, only}
use Rattle.graph.specs.Refusal.{Finding, number, row_at, column_at, row, first_of}
use Rattle.graph.specs.Check.{too_many, too_short}
use Rattle.graph.specs.Graph.{edge}
use Rattle.graph.proofs.Leading.{first_of_leading, fault_not_fine}
use Rattle.graph.proofs.Reading.{entries_graph}
use Rattle.graph.proofs.Refusals.{first_of_single, first_of_fine, row_passes}
use Rattle.repair.specs.Better.{price}
use Rattle.repair.specs.Pair.{is_pair, changeable, all}
use Rattle.repair.specs.Repair.{toll_of, toggled}
use Rattle.repair.proofs.Sets.{all_at, all_in}
use Rattle.repair.proofs.Room.{room_most}
use Rattle.repair.proofs.Toggling.{toggled_graph}
use Rattle.scores.specs.Scale.{half, on_scale, score_of, score_off, scores_off, threshold_off}
use Rattle.scores.specs.Reader.{wrong_layout, layout_fault, sheet_fault}
use Rattle.scores.specs.Sheet.{size_of, threshold_of, scores_of, notes_of, score_at}
use Rattle.scores.proofs.Squares.{length_each}
use Rattle.scores.proofs.Sheets.{laid, sound}
use Rattle.lines.specs.Report.{limit, nodes, page_of, fault, graph_of, prices_of, Mended, Said, Lines, Promise}
use Rattle.lines.specs.Inner.{Checked}
use Rattle.lines.proofs.Bounds.{page_short, refusal_short, stopped_short}
use Rattle.lines.proofs.Mending.{listed_inside}
use Rattle.lines.proofs.Drawing.{squares_checked}

enough : (text : List ℕ) (m : ℕ) → m ≤ length text → too_short text m ≡ Ok tt
unfolding too_short
enough text m h = row_passes NoRoom (le-ltb (length text) m h)

fine_sheet : (sheet : List ℕ) → fault sheet ≡ Ok tt → sheet_fault sheet ≡ Ok tt
unfolding fault
fine_sheet sheet e = first_of_fine (row BadSheet (ltb 49032 (length sheet)) ∷ sheet_fault sheet ∷ []) e 1

-- a finding with a number of the table and a place inside
abbrev Small : Finding → Type 0
Small (Ok done) = Unit
Small (Err r) = (number r ≤ 11) × (row_at r ≤ 128) × (column_at r ≤ 128)

small_row : (r : Refusal) (b : Bool) → Small (Err r) → Small (row r b)
unfolding row
small_row r true h = h
small_row r false h = tt

small_next : (x : Finding) (xs : List Finding) → Small x → (x ≡ Ok tt → Small (first_of xs)) → Small (first_of (x ∷ xs))
unfolding first_of
small_next (Ok done) xs a b = b refl
small_next (Err r) xs a b = a

small_none : Small (first_of [])
unfolding first_of
small_none = tt

small_each : (f : ℕ → List Finding) (n : ℕ) → ((k : ℕ) → k < n → Small (first_of (f k))) → Small (first_of (each n f))
unfolding each
small_each f zero h = small_none
small_each f (suc n) h = go (first_of_leading.decides (first_of (each n f))) (small_each f n (λ k l. h k (omega arith)))
  where
    go :
        (first_of (each n f) ≡ Ok tt) ⊎ (first_of (each n f) ≢ Ok tt) → Small (first_of (each n f)) →
        Small (first_of (each n f ++ f n))
    go (inl e) s = subst Small (sym (first_of_leading.skips (each n f) (f n) e)) (h n (omega arith))
    go (inr e) s = subst Small (sym (first_of_leading.stays (each n f) (f n) e)) s

small_scores : (n : ℕ) (scores : List ℤ) → n ≤ 128 → Small (scores_off n scores)
unfolding scores_off score_off only
small_scores n scores few =
    small_each (λ i. each n (λ j. only (ltb i j) (score_off n scores i j))) n
    (λ i hi. small_each (λ j. only (ltb i j) (score_off n scores i j)) n (λ j hj. go i j hi hj (ltb i j) (on_scale (score_of n scores i j))))
  where
    go :
        (i j : ℕ) → i < n → j < n → (b c : Bool) → Small (first_of (pick b (pick c (Ok tt) (Err (OffScale i j)) ∷ []) []))
    go i j hi hj true true = small_next (Ok tt) [] tt (λ e. small_none)
    go i j hi hj true false = small_next (Err (OffScale i j)) [] (omega arith, omega arith, omega arith) (λ e. small_none)
    go i j hi hj false c = small_none

small_sheet : (sheet : List ℕ) → Small (sheet_fault sheet)
unfolding sheet_fault layout_fault too_many threshold_off
small_sheet sheet =
    small_next (layout_fault sheet) _
    (small_next _ _ (small_row BadSheet (ltb (length sheet) 8) (omega arith, omega arith, omega arith)) (λ e.
    small_next _ _ (small_row TooManyVertices (ltb 128 (size_of sheet)) (omega arith, omega arith, omega arith)) (λ e.
    small_next _ _ (small_row BadSheet (wrong_layout sheet (notes_of sheet) (size_of sheet)) (omega arith, omega arith, omega arith)) (λ e. small_none))))
    (λ e.
    small_next _ _ (small_row (OffScale 0 0) _ (omega arith, omega arith, omega arith)) (λ e₂.
    small_next _ _ (small_scores (size_of sheet) (scores_of sheet) (laid sheet (sym e)).few) (λ e₃. small_none)))

small_fault : (sheet : List ℕ) → Small (fault sheet)
unfolding fault
small_fault sheet =
    small_next _ _ (small_row BadSheet (ltb 49032 (length sheet)) (omega arith, omega arith, omega arith)) (λ e.
    small_next _ _ (small_sheet sheet) (λ e₂. small_none))

module _ (sheet : List ℕ) (right : Ok tt ≡ sheet_fault sheet) where
  pub sheet_checked : Checked (size_of sheet) (graph_of sheet) (prices_of sheet)
  unfolding graph_of prices_of scores_of
  sheet_checked =
      let ok = sound sheet right in
      squares_checked (size_of sheet) (threshold_of sheet) (scores_of sheet) ok.0.few
      (length_each (half (size_of sheet)) (score_at sheet (notes_of sheet))) ok.1 ok.2

  mended_short :
      {lines : List ℕ} →
      Mended (size_of sheet) (edge (size_of sheet) (graph_of sheet)) (toll_of (prices_of sheet)) lines → length lines ≤ 131072
  unfolding page_of changeable
  mended_short m =
      let n : ℕ = size_of sheet in
      let e : ℕ → ℕ → Bool = edge n (graph_of sheet) in
      let ok = sheet_checked in
      let r : List ℕ = m.repair in
      let is = m.best.member in
      let pairs : all (is_pair n) r ≡ true =
      all_in (is_pair n) r (λ x k. and_left (is_pair n x) _ (all_at (changeable n (toll_of (prices_of sheet))) x r is.allowed k)) in
      let short =
      page_short n ok.few e (toggled n e r) r (price (toll_of (prices_of sheet)) r) (nodes n e (toll_of (prices_of sheet)))
      (toggled_graph n e (entries_graph n (graph_of sheet) ok.fine) r)
      (room_most n (toll_of (prices_of sheet)) r is.sorted is.allowed ok.few) (listed_inside n r pairs)
      (omega (arith, m.best.within)) (omega (arith, m.within))
      in
      omega (arith, ap length m.lines)

pub lines_short : (sheet lines : List ℕ) → Lines sheet lines → length lines ≤ 131072
lines_short sheet lines said = go (fault sheet) refl (small_fault sheet) said
  where
    go : (x : Finding) → fault sheet ≡ x → Small x → Said sheet x lines → length lines ≤ 131072
    go (Err r) e s p =
        omega (arith, ap length p, refusal_short (number r) (row_at r) (column_at r) (omega (arith, s)) (omega (arith, s)) (omega (arith, s)))
    go (Ok done) e s (inl stop) = omega (arith, ap length stop.line, stopped_short limit (omega arith))
    go (Ok done) e s (inr m) = mended_short sheet (sym (fine_sheet sheet e)) m

-- whoever lends 131,072 bytes gets the lines
pub never_refused : (sheet text : List ℕ) (r : Result ℕ Refusal) {after : List ℕ} → Promise sheet text r after → 131072 ≤ length text → (size : ℕ) × (r ≡ Ok size)
never_refused sheet text (Ok size) p room = (size, refl)
never_refused sheet text (Err r) p room =
    absurd
    (fault_not_fine
    (p.refused ∙ first_of_single (too_short text (length p.lines)) ∙ enough text (length p.lines) (omega (arith, lines_short sheet p.lines p.right))))
