-- What `read` and `notes` promise, for every sheet: the refusal, p, n and t, and what the lent list holds afterwards.
-- Assumes nothing.
use Rattle.std.specs.Prelude.{◌≡◌, ℕ, Bool, not, ◌||◌, List, [], ◌∷◌, ◌++◌, length, take, drop, ltb, eqb, ℤ, Result, Ok, Err}
use Rattle.graph.specs.declared.Refusal.{Refusal}
use Rattle.graph.specs.declared.Refusal.TheVariants.{NoRoom, BadSheet}
use Rattle.graph.specs.Refusal.{Finding, row, first_of, refusal}
use Rattle.graph.specs.Check.{too_many}
use Rattle.scores.specs.declared.Trailer.{Trailer}
use Rattle.scores.specs.Scale.{half, threshold_off, scores_off}
use Rattle.scores.specs.Sheet.{sheet_length, notes_of, size_of, threshold_of, scores_of}

-- 10: "lent output too short": "n(n-1)/2 for .. scores"
unfoldable pub no_room : List ℤ → ℕ → Finding
no_room out n = row NoRoom (ltb (length out) (half n))

-- 11: "p too large, or wrong length": "p at most 32,768", "exactly p + n(n-1) + 8"
unfoldable pub wrong_layout : List ℕ → ℕ → ℕ → Bool
wrong_layout sheet p n = ltb 32768 p || not (eqb (length sheet) (sheet_length p n))

-- "Reading a sheet: 11 if shorter than 8, 1, 11, 5, 10": the first three, and all but the room
unfoldable pub layout_fault : List ℕ → Finding
layout_fault sheet =
    first_of
    (row BadSheet (ltb (length sheet) 8)
    ∷ too_many (size_of sheet)
    ∷ row BadSheet (wrong_layout sheet (notes_of sheet) (size_of sheet))
    ∷ [])

unfoldable pub sheet_fault : List ℕ → Finding
sheet_fault sheet =
    first_of (layout_fault sheet ∷ threshold_off (threshold_of sheet) ∷ scores_off (size_of sheet) (scores_of sheet) ∷ [])

unfoldable pub checks : List ℕ → List ℤ → List Finding
checks sheet out = sheet_fault sheet ∷ no_room out (size_of sheet) ∷ []

-- "The reader fills the first n(n-1)/2 scores of the lent list and gives p, n and t"
pub record Filled (sheet : List ℕ) (out : List ℤ) (p n : ℕ) (t : ℤ) (after : List ℤ) : Type 0 where
  pub behind : p ≡ notes_of sheet
  pub size : n ≡ size_of sheet
  pub threshold : t ≡ threshold_of sheet
  pub scores : after ≡ scores_of sheet ++ drop (half (size_of sheet)) out

abbrev pub Meant : List ℕ → List ℤ → Result Trailer Refusal → List ℤ → Type 0
Meant sheet out (Err r) after = after ≡ out
Meant sheet out (Ok h) after = Filled sheet out h.p h.n h.t after

pub record Promise (sheet : List ℕ) (out : List ℤ) (r : Result Trailer Refusal) (after : List ℤ) : Type 0 where
  pub refused : refusal r ≡ first_of (checks sheet out)
  pub meant : Meant sheet out r after

-- "a second call shows the notes as a part of the sheet, empty if the reader would refuse it for anything but room"
abbrev pub if_fine : Finding → List ℕ → List ℕ
if_fine (Ok done) xs = xs
if_fine (Err r) xs = []

unfoldable pub shown : List ℕ → List ℕ
shown sheet = if_fine (sheet_fault sheet) (take (notes_of sheet) sheet)
