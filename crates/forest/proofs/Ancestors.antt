-- Ancestors under any parents: an ancestor's ancestor is one, and two ancestors of one vertex are the same or one is the
-- other's, since each vertex has one parent. Assumes nothing.
use mathlib.Core.Path.{◌≡◌, sym, ◌∙◌, subst}
use mathlib.Core.Logic.{◌⊎◌, inl, inr}
use Prim.Native.Nat.{ℕ}
use Rattle.forest.specs.Forest.{Ancestor, near, far}

pub ancestor_transitive : {p : ℕ → ℕ} {u v w : ℕ} → Ancestor p u v → Ancestor p v w → Ancestor p u w
ancestor_transitive {p} {u} up (near is) = far is up
ancestor_transitive up (far is above) = far is (ancestor_transitive up above)

-- the parent is the nearest ancestor
pub ancestor_of_parent : {p : ℕ → ℕ} {u v w : ℕ} → p v ≡ w → Ancestor p u v → (u ≡ w) ⊎ Ancestor p u w
ancestor_of_parent is (near is') = inl (sym is' ∙ is)
ancestor_of_parent {p} {u} is (far is' above) = inr (subst (Ancestor p u) (sym is' ∙ is) above)

-- the ancestors of one vertex stand in a line
pub ancestor_line : {p : ℕ → ℕ} {u v w : ℕ} → Ancestor p u w → Ancestor p v w
    → (u ≡ v) ⊎ (Ancestor p u v ⊎ Ancestor p v u)
ancestor_line {p} {u} {v} (near is) up = go (ancestor_of_parent is up)
  where
    go : (v ≡ u) ⊎ Ancestor p v u → (u ≡ v) ⊎ (Ancestor p u v ⊎ Ancestor p v u)
    go (inl same) = inl (sym same)
    go (inr above) = inr (inr above)
ancestor_line {p} {u} {v} (far {w = x} is above) up = go above (ancestor_line above) (ancestor_of_parent is up)
  where
    go : Ancestor p u x → (Ancestor p v x → (u ≡ v) ⊎ (Ancestor p u v ⊎ Ancestor p v u))
        → (v ≡ x) ⊎ Ancestor p v x → (u ≡ v) ⊎ (Ancestor p u v ⊎ Ancestor p v u)
    go over line (inl same) = inr (inl (subst (Ancestor p u) (sym same) over))
    go over line (inr above') = line above'
