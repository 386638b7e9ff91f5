-- Repairs. Nothing here knows of a search. Assumes nothing.
use Rattle.std.specs.Prelude.{◌≡◌, ℕ, Bool, true, not, ◌&&◌, List, get_or, eqb}
use Rattle.bits.specs.Choice.{pick}
use Rattle.graph.specs.Graph.{within}
use Rattle.graph.specs.Quad.{Clean}
use Rattle.repair.specs.Pair.{pair_of, changeable, member, all, ascending}

-- the prices by pair number: pair (i, j) stands at i x n + j of the n x n prices
abbrev pub toll_of : List ℕ → ℕ → ℕ
toll_of prices x = get_or prices x 0

-- the graph with the listed pairs toggled
unfoldable pub toggled : ℕ → (ℕ → ℕ → Bool) → List ℕ → ℕ → ℕ → Bool
toggled n e r i j =
    pick (within n (λ x y. not (eqb x y) && member (pair_of n x y) r) i j) (not (e i j)) (e i j)

-- "A repair is a set of non-fixed pairs whose toggling leaves a clean graph.": the set as its "ascending list of pair numbers"
pub record Repair (n : ℕ) (e : ℕ → ℕ → Bool) (toll : ℕ → ℕ) (r : List ℕ) : Type 0 where
  pub sorted : ascending r ≡ true
  pub allowed : all (changeable n toll) r ≡ true
  pub cleans : Clean n (toggled n e r)
