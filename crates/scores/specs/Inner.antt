-- What the inner functions promise their callers. No entry point's promise cites a definition of this file. Assumes nothing.
use Rattle.std.specs.Prelude.{ℕ, List, [], ◌∷◌, ℤ}
use Rattle.graph.specs.Each.{each}
use Rattle.scores.specs.Scale.{half}
use Rattle.scores.specs.Sheet.{notes_of, size_of, threshold_of, score_at}
use Rattle.scores.specs.declared.Trailer.{Trailer}

-- p, n and t of a sheet
abbrev pub trailer_of : List ℕ → Trailer
trailer_of sheet = record { p = notes_of sheet; n = size_of sheet; t = threshold_of sheet }

-- the n(n-1)/2 scores behind p bytes of notes
abbrev pub scores_in : List ℕ → ℕ → ℕ → List ℤ
scores_in sheet p n = each (half n) (λ k. score_at sheet p k ∷ [])
