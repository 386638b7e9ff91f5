-- The checks of a graph, numbers 1 to 4 of "Numbers returned". Assumes nothing.
use Rattle.std.specs.Prelude.{ℕ, ◌+◌, ◌*◌, not, ◌&&◌, ◌||◌, List, [], ◌∷◌, length, get_or, ltb, eqb, Ok, Err}
use Rattle.bits.specs.Choice.{pick}
use Rattle.graph.specs.declared.Refusal.TheVariants.{TooManyVertices, WrongLength, BadEntry, Lopsided, NoRoom}
use Rattle.graph.specs.Each.{each}
use Rattle.graph.specs.Refusal.{Finding, row, first_of}

-- 1: "n above 128"
unfoldable pub too_many : ℕ → Finding
too_many n = row TooManyVertices (ltb 128 n)

-- 2: "a matrix or score list has the wrong length": it is to have `wanted` entries
unfoldable pub wrong_length : List ℕ → ℕ → Finding
wrong_length xs wanted = row WrongLength (not (eqb (length xs) wanted))

-- 10: "lent output too short": room for `wanted` entries
unfoldable pub too_short : List ℕ → ℕ → Finding
too_short out wanted = row NoRoom (ltb (length out) wanted)

-- 3: "graph entry not 0 or 1, or diagonal not 0"; 4: "graph entry differs from its mirror";
-- "at one entry 3 is tried before 4", here at row i, column j
unfoldable pub entry : ℕ → List ℕ → ℕ → ℕ → Finding
entry n g i j =
    pick (ltb 1 (get_or g (i * n + j) 0) || (eqb i j && not (eqb (get_or g (i * n + j) 0) 0)))
    (Err (BadEntry i j))
    (pick (eqb (get_or g (i * n + j) 0) (get_or g (j * n + i) 0)) (Ok tt) (Err (Lopsided i j)))

-- "3 and 4 stand at one place .., where the first entry at fault decides"; "the first at fault row by row"
unfoldable pub entries : ℕ → List ℕ → Finding
entries n g = first_of (each n (λ i. each n (λ j. entry n g i j ∷ [])))
