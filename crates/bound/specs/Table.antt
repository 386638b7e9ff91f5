-- The working table of costs that the engines and the bound read: row i, column j at i x 128 + j. Assumes nothing.
use Rattle.std.specs.Prelude.{Bool, List, ℕ, ◌+◌, ◌*◌, ◌/◌, ◌%◌, get_or, ltb}
use Rattle.graph.specs.Price.{fixed}
use Rattle.graph.specs.Graph.{word_edge}
use Rattle.graph.specs.Quad.{quads}
use Rattle.repair.specs.Packing.{packing}

-- what the pair with the number x, of n vertices, costs: row x / n, column x % n
unfoldable pub toll_at : ℕ → List ℕ → ℕ → ℕ
toll_at n cost x = get_or cost (x / n * 128 + x % n) 0

-- "A pair is free if it is neither fixed nor marked": then it costs less than 65,535
unfoldable pub free_at : ℕ → List ℕ → ℕ → Bool
free_at n cost x = ltb (toll_at n cost x) fixed

-- the packing bound of the graph of n vertices that the flat words say, at the costs of the table
abbrev pub bound_of : ℕ → List ℕ → List ℕ → ℕ
bound_of n words cost = packing n (free_at n cost) (toll_at n cost) (quads n (word_edge words))
