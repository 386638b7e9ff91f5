-- How deep the tree can be: the d of "1 + 6 + .. + 6^d". Assumes nothing.
use Rattle.std.specs.Prelude.{ℕ, zero, ◌*◌, ◌/◌, List, [], ◌∷◌}
use Rattle.bits.specs.Choice.{pick}
use Rattle.graph.specs.Each.{each}
use Rattle.repair.specs.Pair.{changeable}
use Rattle.repair.specs.Packing.{those, lowest, empty}

-- 0, 1, .. m - 1
unfoldable pub numbers : ℕ → List ℕ
numbers m = each m (λ x. x ∷ [])

-- the pairs that may be changed
unfoldable pub changeables : ℕ → (ℕ → ℕ) → List ℕ
changeables n toll = those (changeable n toll) (numbers (n * n))

-- d = k / the lowest price of a pair that may be changed, "0 where none may be changed"
unfoldable pub depth : ℕ → (ℕ → ℕ) → ℕ → ℕ
depth n toll k = pick (empty (changeables n toll)) zero (k / lowest toll (changeables n toll))
