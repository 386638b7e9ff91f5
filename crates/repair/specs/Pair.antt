-- Pairs of vertices by their numbers. Assumes nothing.
use Rattle.std.specs.Prelude.{ℕ, ◌+◌, ◌*◌, ◌/◌, ◌%◌, min, max, Bool, true, false, not, ◌&&◌, ◌||◌, List, [], ◌∷◌, ltb, eqb}
use Rattle.graph.specs.Price.{fixed}

-- "The number of pair (i, j), i < j, is i x n + j.", of the pair of x and y
unfoldable pub pair_of : ℕ → ℕ → ℕ → ℕ
pair_of n x y = min x y * n + max x y

-- x is the number of a pair of the n vertices
unfoldable pub is_pair : ℕ → ℕ → Bool
is_pair n x = ltb x (n * n) && ltb (x / n) (x % n)

-- "non-fixed pairs": x is the number of a pair that may be changed, at the prices by number `toll`
unfoldable pub changeable : ℕ → (ℕ → ℕ) → ℕ → Bool
changeable n toll x = is_pair n x && not (eqb (toll x) fixed)

-- is x one of the numbers
unfoldable pub member : ℕ → List ℕ → Bool
member x [] = false
member x (y ∷ ys) = eqb x y || member x ys

-- every number of the list passes
unfoldable pub all : (ℕ → Bool) → List ℕ → Bool
all f [] = true
all f (y ∷ ys) = f y && all f ys

-- an "ascending list of pair numbers"
unfoldable pub ascending : List ℕ → Bool
ascending [] = true
ascending (x ∷ xs) = all (ltb x) xs && ascending xs
