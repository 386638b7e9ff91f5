-- Forests: ancestors, when a forest fits a graph, and groups. Assumes nothing.
use Rattle.std.specs.Prelude.{◌≡◌, ◌⊎◌, ◌≢◌, ◌↔◌, ℕ, ◌<◌, Bool, true, List, get_or, ltb, eqb}
use Rattle.bits.specs.Choice.{pick, count}
use Rattle.forest.specs.Order.{nobody}

-- the parents that a list gives the vertices 0 to n - 1
unfoldable pub parent_in : ℕ → List ℕ → ℕ → ℕ
parent_in n xs v = pick (ltb v n) (get_or xs v nobody) nobody

-- u is an ancestor of v: its parent, or an ancestor of its parent
pub data Ancestor (p : ℕ → ℕ) : ℕ → ℕ → Type 0 where
  near : {u v : ℕ} → p v ≡ u → Ancestor p u v
  far : {u v w : ℕ} → p v ≡ w → Ancestor p u w → Ancestor p u v

-- "The forest fits when two vertices are adjacent exactly if one is an ancestor of the other."
abbrev pub Fits : ℕ → (ℕ → ℕ → Bool) → (ℕ → ℕ) → Type 0
Fits n e p = (u v : ℕ) → u < n → v < n → u ≢ v → (e u v ≡ true) ↔ (Ancestor p u v ⊎ Ancestor p v u)

-- no vertex is an ancestor of its own: the parents make trees
abbrev pub Acyclic : ℕ → (ℕ → ℕ) → Type 0
Acyclic n p = (v : ℕ) → v < n → Ancestor p v v → ⊥

-- "Groups are the trees of the forest; their number is the number of roots."
unfoldable pub roots : ℕ → (ℕ → ℕ) → ℕ
roots n p = count (λ v. eqb (p v) nobody) n
