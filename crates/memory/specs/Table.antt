-- The working table of costs: row i, column j at i x 128 + j, and the places of pairs in it. Assumes nothing.
use Rattle.std.specs.Prelude.{◌≡◌, false, List, ℕ, ◌+◌, ◌*◌, ◌/◌, ◌%◌, ◌<◌, length, get_or, set}
use Rattle.graph.specs.Price.{fixed}
use Rattle.repair.specs.Pair.{member}

-- p is the place of a pair of the n vertices: row p / 128, column p % 128
pub record Place (n p : ℕ) : Type 0 where
  pub apart : p / 128 < p % 128
  pub inside : p % 128 < n

-- "The number of pair (i, j), i < j, is i x n + j.", of the pair at p
unfoldable pub number_at : ℕ → ℕ → ℕ
number_at n p = p / 128 * n + p % 128

-- "Marks made at a node": the place p is marked, and what it cost is told
pub record Marked (p : ℕ) (before after : List ℕ) (r : ℕ) : Type 0 where
  pub told : r ≡ get_or before p 0
  pub stored : after ≡ set before p fixed

-- the costs at six places
pub record Olds (cost places old : List ℕ) : Type 0 where
  pub six : length old ≡ 6
  pub each : (w : ℕ) → w < 6 → get_or old w 0 ≡ get_or cost (get_or places w 0) 0

-- the two tables differ at most at the listed places
pub record Apart (places first second : List ℕ) : Type 0 where
  pub long : length second ≡ length first
  pub others : (p : ℕ) → member p places ≡ false → get_or second p 0 ≡ get_or first p 0
