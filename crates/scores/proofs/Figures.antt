-- The figures of scores and sheets that document 01 marks *, as rows of one table, and the one claim that every row holds,
-- by computation. Assumes nothing.
use mathlib.Core.Path.{◌≡◌, refl}
use mathlib.Core.Bool.{Bool, true, false, ◌&&◌}
use mathlib.Core.List.{List, [], ◌∷◌}
use Prim.Native.Nat.{ℕ}
use lib.Dec.{eqb}
use lib.IntN.{ℤ, pos, negsuc}
use lib.Signed.{le_z}
use Rattle.graph.specs.Refusal.{Finding, number_of, row_of, column_of, first_of}
use Rattle.scores.specs.Scale.{distance, price_of, earlier, place, spot, score_of, threshold_off, score_off, scores_off, edge_byte, price_entry}
use Rattle.scores.specs.Sheet.{low_first, number, signed_bytes, score_bytes, trailer, sheet_bytes, field, notes_of, size_of, threshold_of, score_at, scores_of}
use Rattle.scores.specs.Drawing.{wrong_count, checks}
use Rattle.scores.specs.Reader.{wrong_layout, layout_fault, sheet_fault, shown}
use Rattle.graph.specs.Each.{each, only}
use Rattle.graph.specs.Refusal.{row}
use Rattle.graph.specs.Check.{too_many, too_short}

-- a row: the edge and the price of score s at threshold t; the refusal of two vertices with the score s at t; and a sheet
-- with what is in it
pub data Figure : Type 0 where
  drawn : (s t : ℤ) (edge price : ℕ) → Figure
  refused : (s t : ℤ) (number i j : ℕ) → Figure
  sheet : (bytes notes : List ℕ) (scores : List ℤ) (n : ℕ) (t : ℤ) → Figure

abbrev same_z : ℤ → ℤ → Bool
same_z a b = le_z a b && le_z b a

same_list : {A : Type 0} → (A → A → Bool) → List A → List A → Bool
same_list eq [] [] = true
same_list eq [] (y ∷ ys) = false
same_list eq (x ∷ xs) [] = false
same_list eq (x ∷ xs) (y ∷ ys) = eq x y && same_list eq xs ys

-- the number and the place of a finding; 0 at (0, 0) where nothing is found
says : Finding → ℕ → ℕ → ℕ → Bool
says x k i j = eqb (number_of x) k && eqb (row_of x) i && eqb (column_of x) j

-- what the call finds with room for the two matrices
abbrev found : ℕ → ℤ → List ℤ → Finding
found n t scores = first_of (checks n t scores (0 ∷ 0 ∷ 0 ∷ 0 ∷ []) (0 ∷ 0 ∷ 0 ∷ 0 ∷ []))

pub holds : Figure → Bool
holds (drawn s t edge price) =
    says (found 2 t (s ∷ [])) 0 0 0 && eqb (edge_byte 2 t (s ∷ []) 0 1) edge && eqb (price_entry 2 t (s ∷ []) 0 1) price
holds (refused s t number i j) = says (found 2 t (s ∷ [])) number i j
holds (sheet bytes notes scores n t) =
    same_list eqb (sheet_bytes notes scores n t) bytes
    && says (sheet_fault bytes) 0 0 0
    && same_list eqb (shown bytes) notes
    && same_list same_z (scores_of bytes) scores
    && eqb (size_of bytes) n
    && same_z (threshold_of bytes) t

unfoldable pub every : List Figure → Bool
every [] = true
every (f ∷ fs) = holds f && every fs

-- "s = 100 at t = 100: no edge, 1; 101: edge, 1; s = 5,000, t = -5,000: edge, 10,000; 5,001: refusal 5", and the example sheet
pub figures : List Figure
figures =
    drawn (pos 100) (pos 100) 0 1
    ∷ drawn (pos 101) (pos 100) 1 1
    ∷ drawn (pos 5000) (negsuc 4999) 1 10000
    ∷ refused (pos 5001) (negsuc 4999) 5 0 1
    ∷ sheet
    (97 ∷ 98 ∷ 44 ∷ 1 ∷ 2 ∷ 0 ∷ 0 ∷ 0 ∷ 2 ∷ 0 ∷ 100 ∷ 0 ∷ [])
    (97 ∷ 98 ∷ [])
    (pos 300 ∷ [])
    2
    (pos 100)
    ∷ []

pub figures_hold : every figures ≡ true
unfolding every holds figures same_list says first_of row too_many too_short wrong_count checks threshold_off scores_off score_off score_of spot place earlier each only edge_byte price_entry price_of distance sheet_bytes score_bytes signed_bytes low_first trailer number field notes_of size_of threshold_of score_at scores_of wrong_layout layout_fault sheet_fault shown
figures_hold = refl
