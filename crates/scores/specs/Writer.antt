-- What `write` promises, for every input: the refusal, the length, and what the lent buffer holds afterwards. Assumes nothing.
use Rattle.std.specs.Prelude.{◌≡◌, ℕ, List, [], ◌∷◌, ◌++◌, length, drop, ltb, ℤ, Result, Ok, Err}
use Rattle.graph.specs.declared.Refusal.{Refusal}
use Rattle.graph.specs.declared.Refusal.TheVariants.{BadSheet}
use Rattle.graph.specs.Refusal.{Finding, row, first_of, refusal}
use Rattle.graph.specs.Check.{too_many, too_short}
use Rattle.scores.specs.Scale.{threshold_off, scores_off}
use Rattle.scores.specs.Drawing.{wrong_count}
use Rattle.scores.specs.Sheet.{sheet_length, sheet_bytes}

-- 11 for the notes: "p at most 32,768"
unfoldable pub long_notes : List ℕ → Finding
long_notes notes = row BadSheet (ltb 32768 (length notes))

-- "Writing: 1, 2, 11 for the notes, 5, 10": all but the room
unfoldable pub write_fault : List ℕ → List ℤ → ℕ → ℤ → Finding
write_fault notes scores n t =
    first_of (too_many n ∷ wrong_count scores n ∷ long_notes notes ∷ threshold_off t ∷ scores_off n scores ∷ [])

-- "Room wanted: .. the whole length for a sheet"
unfoldable pub checks : List ℕ → List ℤ → ℕ → ℤ → List ℕ → List Finding
checks notes scores n t buf = write_fault notes scores n t ∷ too_short buf (sheet_length (length notes) n) ∷ []

-- "bytes behind the sheet stay"; "every lent buffer is then unchanged" of a refusal
abbrev pub Meant : List ℕ → List ℤ → ℕ → ℤ → List ℕ → Result ℕ Refusal → List ℕ → Type 0
Meant notes scores n t buf (Err r) after = after ≡ buf
Meant notes scores n t buf (Ok size) after =
    (size ≡ sheet_length (length notes) n) × (after ≡ sheet_bytes notes scores n t ++ drop size buf)

pub record Promise
    (notes : List ℕ)
    (scores : List ℤ)
    (n : ℕ)
    (t : ℤ)
    (buf : List ℕ)
    (r : Result ℕ Refusal)
    (after : List ℕ) : Type 0 where
  pub refused : refusal r ≡ first_of (checks notes scores n t buf)
  pub meant : Meant notes scores n t buf r after
