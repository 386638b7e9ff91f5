-- Graphs: n vertices, 0 to n - 1, and which pairs are edges. A graph is read from lent bytes, from rows of two words,
-- and from the same words laid flat. Assumes nothing.
use Rattle.std.specs.Prelude.{◌≡◌, ℕ, ◌+◌, ◌*◌, ◌/◌, ◌%◌, ◌<◌, Bool, true, false, not, ◌&&◌, ◌||◌, List, [], get_or, ltb, eqb}
use Rattle.bits.specs.Bit.{bit}
use Rattle.bits.specs.Choice.{pick}

-- "A graph has n vertices, 0 to n-1": both are vertices, and e joins them
abbrev pub within : ℕ → (ℕ → ℕ → Bool) → ℕ → ℕ → Bool
within n e i j = ltb i n && ltb j n && e i j

-- "diagonal 0, symmetric": what every graph of this library is, whatever it was read from
pub record IsGraph (n : ℕ) (e : ℕ → ℕ → Bool) : Type 0 where
  pub inside : (i j : ℕ) → e i j ≡ true → (i < n) × (j < n)
  pub loopless : (i : ℕ) → e i i ≡ false
  pub mirrored : (i j : ℕ) → e i j ≡ e j i

-- "It comes as n x n bytes, row by row: 0 or 1"
unfoldable pub edge : ℕ → List ℕ → ℕ → ℕ → Bool
edge n g = within n (λ i j. eqb (get_or g (i * n + j) 0) 1)

-- "Inside the library a vertex's neighbours are two 64-bit words, and the graph is an array of 128 rows of two such words"
unfoldable pub row_edge : List (List ℕ) → ℕ → ℕ → Bool
row_edge rows = within 128 (λ i j. bit (get_or (get_or rows i []) (j / 64) 0) (j % 64))

-- "one flat copy of those words": row i at 2 x i and 2 x i + 1
unfoldable pub word_edge : List ℕ → ℕ → ℕ → Bool
word_edge words = within 128 (λ i j. bit (get_or words (2 * i + j / 64) 0) (j % 64))

-- is {i, j} the pair {x, y}
abbrev pub is_pair : ℕ → ℕ → ℕ → ℕ → Bool
is_pair x y i j = (eqb i x && eqb j y) || (eqb i y && eqb j x)

-- "toggling" the pair {x, y}
unfoldable pub flipped : ℕ → ℕ → (ℕ → ℕ → Bool) → ℕ → ℕ → Bool
flipped x y e i j = pick (is_pair x y i j) (not (e i j)) (e i j)
