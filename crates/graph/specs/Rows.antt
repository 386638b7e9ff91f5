-- The contracts of the graph's words: rows of two words, the same words laid flat, and a toggled pair. Each says the whole
-- of what it leaves: any two answers are equal (rows_determined, flat_determined, toggle_determined). Assumes nothing.
use Rattle.std.specs.Prelude.{◌≡◌, Bool, not, ◌&&◌, List, [], ℕ, ◌+◌, ◌*◌, ◌/◌, ◌%◌, ◌^◌, ◌<◌, length, get_or, eqb}
use Rattle.bits.specs.Bit.{bit}
use Rattle.bits.specs.Choice.{pick}
use Rattle.graph.specs.Graph.{edge, row_edge, word_edge, flipped}

-- "a vertex's neighbours are two 64-bit words": bit j % 64 of word j / 64 says whether j is one
pub record IsRow (row : List ℕ) (joined : ℕ → Bool) : Type 0 where
  pub two : length row ≡ 2
  pub fits : (k : ℕ) → get_or row k 0 < 2 ^ 64
  pub bits : (j : ℕ) → j < 128 → bit (get_or row (j / 64) 0) (j % 64) ≡ joined j

-- "the graph is an array of 128 rows of two such words"
pub record AreRows (rows : List (List ℕ)) : Type 0 where
  pub many : length rows ≡ 128
  pub two : (i : ℕ) → i < 128 → length (get_or rows i []) ≡ 2
  pub fits : (i k : ℕ) → get_or (get_or rows i []) k 0 < 2 ^ 64

-- "one flat copy of those words"
pub record AreWords (words : List ℕ) : Type 0 where
  pub many : length words ≡ 256
  pub fits : (p : ℕ) → get_or words p 0 < 2 ^ 64

-- the rows of the graph that the n x n bytes g give
pub record Rowed (n : ℕ) (g : List ℕ) (rows : List (List ℕ)) : Type 0 where
  pub shape : AreRows rows
  pub edges : row_edge rows ≡ edge n g

-- the words of the rows: word k of row i at 2 x i + k
pub record Flat (rows : List (List ℕ)) (words : List ℕ) : Type 0 where
  pub shape : AreWords words
  pub word : (i k : ℕ) → i < 128 → k < 2 → get_or words (2 * i + k) 0 ≡ get_or (get_or rows i []) k 0
  pub edges : word_edge words ≡ row_edge rows

-- the entry at row x, column y alone is toggled
pub record OneWay (x y : ℕ) (before after : List ℕ) : Type 0 where
  pub shape : AreWords after
  pub edges :
      (i j : ℕ) →
      word_edge after i j ≡ pick (eqb i x && eqb j y) (not (word_edge before i j)) (word_edge before i j)

-- the pair {x, y} is toggled, in both its rows
pub record Toggled (x y : ℕ) (before after : List ℕ) : Type 0 where
  pub shape : AreWords after
  pub edges : word_edge after ≡ flipped x y (word_edge before)
