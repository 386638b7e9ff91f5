-- The trees of a forest are counted by its roots: above each vertex stands exactly one root, or it is one itself. There is
-- one, since the way up meets no vertex twice; there are not two, since the ancestors of a vertex stand in a line.
-- Assumes nothing.
use mathlib.Core.Path.{◌≡◌, refl, sym, ◌∙◌, ap, subst}
use mathlib.Core.Logic.{◌⊎◌, inl, inr, ⊎_elim}
use mathlib.Core.Bool.{Bool, true, false, not, ◌||◌}
use Prim.Native.Nat.{ℕ, zero, suc, ◌<◌, ◌≤◌}
use native.Mathlib.Omega.{arith}
use lib.Dec.{eqb}
use borrow.Author.Tests.{eqb-true, eq-eqb, not-true}
use Rattle.bits.specs.Choice.{count}
use Rattle.bits.proofs.Truth.{never, fails, or_right, or_out, or_off_left, not_in, not_off}
use Rattle.bits.proofs.Counting.{count_less}
use Rattle.graph.specs.Graph.{IsGraph}
use Rattle.forest.specs.Order.{nobody, parent}
use Rattle.forest.specs.Forest.{Ancestor, near, far, Acyclic}
use Rattle.forest.proofs.Parents.{IsParent, orphan, child, parent_is, parent_outside}
use Rattle.forest.proofs.Ancestors.{ancestor_transitive, ancestor_line, ancestor_of_parent}

-- parents that are vertices or nobody, of vertices alone
pub record Bounded (n : ℕ) (p : ℕ → ℕ) : Type 0 where
  pub vertex : (v : ℕ) → (p v ≡ nobody) ⊎ (p v < n)
  pub outside : (v : ℕ) → n ≤ v → p v ≡ nobody

-- r is a root, and v is in its tree
pub record RootOf (n : ℕ) (p : ℕ → ℕ) (v r : ℕ) : Type 0 where
  pub inside : r < n
  pub top : p r ≡ nobody
  pub over : (r ≡ v) ⊎ Ancestor p r v

-- what the way up has met, with w
abbrev further : (ℕ → Bool) → ℕ → ℕ → Bool
further met w x = met x || eqb x w

-- fewer are then left to meet
further_fewer : (n : ℕ) (met : ℕ → Bool) (w : ℕ) → w < n → met w ≡ false
    → count (λ x. not (further met w x)) n < count (λ x. not (met x)) n
further_fewer n met w low off =
    count_less n (λ x l t. not_in (or_off_left (met x) (eqb x w) (not-true (further met w x) t))) w low
    (not_off (or_right (met w) (eq-eqb w w refl))) (not_in off)

module _ {n : ℕ} {p : ℕ → ℕ} (bounded : Bounded n p) (room : n ≤ nobody) where
  -- no vertex stands above nobody, and so none above a root
  nobody_top : {u v : ℕ} → u < n → v ≡ nobody → Ancestor p u v → ⊥
  nobody_top {u} {v} low nought (near is) =
      let up : p v ≡ nobody = bounded.outside v (omega arith) in omega arith
  nobody_top {u} {v} low nought (far {w = w} is above) =
      let up : p v ≡ nobody = bounded.outside v (omega arith) in nobody_top low (sym is ∙ up) above

  root_top : {u r : ℕ} → u < n → p r ≡ nobody → Ancestor p u r → ⊥
  root_top {u} low top up = go (ancestor_of_parent top up)
    where
      go : (u ≡ nobody) ⊎ Ancestor p u nobody → ⊥
      go (inl nought) = omega arith
      go (inr above) = nobody_top low refl above

  pub root_unique : {v r s : ℕ} → RootOf n p v r → RootOf n p v s → r ≡ s
  root_unique {v} {r} {s} a b = go a.over b.over
    where
      apart : (r ≡ s) ⊎ (Ancestor p r s ⊎ Ancestor p s r) → r ≡ s
      apart (inl same) = same
      apart (inr (inl up)) = absurd (root_top a.inside b.top up)
      apart (inr (inr up)) = absurd (root_top b.inside a.top up)

      go : (r ≡ v) ⊎ Ancestor p r v → (s ≡ v) ⊎ Ancestor p s v → r ≡ s
      go (inl here) (inl here') = here ∙ sym here'
      go (inl here) (inr up) = apart (inr (inr (subst (Ancestor p s) (sym here) up)))
      go (inr up) (inl here) = apart (inr (inl (subst (Ancestor p r) (sym here) up)))
      go (inr up) (inr up') = apart (ancestor_line up up')

  module _ (acyclic : Acyclic n p) where
    -- from w on, where w stands above all that the way up has met
    walk : (k : ℕ) (met : ℕ → Bool) (w : ℕ) → w < n → ((x : ℕ) → met x ≡ true → Ancestor p w x)
        → count (λ x. not (met x)) n < k → (r : ℕ) × RootOf n p w r
    walk zero met w low above less = absurd (omega arith)
    walk (suc k) met w low above less = go (walk k (further met w) (p w)) (bounded.vertex w)
      where
        higher : (x : ℕ) → further met w x ≡ true → Ancestor p (p w) x
        higher x t =
            ⊎_elim (λ old. ancestor_transitive (near refl) (above x old)) (λ same. near (ap p (eqb-true x w same)))
            (or_out (met x) (eqb x w) t)

        fewer : count (λ x. not (further met w x)) n < count (λ x. not (met x)) n
        fewer = further_fewer n met w low (fails (λ t. acyclic w low (above w t)))

        go : (p w < n → ((x : ℕ) → further met w x ≡ true → Ancestor p (p w) x)
            → count (λ x. not (further met w x)) n < k → (r : ℕ) × RootOf n p (p w) r)
            → (p w ≡ nobody) ⊎ (p w < n) → (r : ℕ) × RootOf n p w r
        go on (inl top) = (w, record { inside = low; top = top; over = inl refl })
        go on (inr up) =
            let (r, root) = on up higher (omega (arith, fewer)) in (
              r,
              record {
                inside = root.inside;
                top = root.top;
                over = inr (⊎_elim (λ same. near (sym same)) (λ over. far refl over) root.over);
              },
            )

    pub root_of : (v : ℕ) → v < n → (r : ℕ) × RootOf n p v r
    root_of v low = walk (suc (count (λ x. true) n)) (λ x. false) v low (λ x t. never t refl) (omega arith)

-- exactly one root has v in its tree
pub record OneRoot (n : ℕ) (p : ℕ → ℕ) (v : ℕ) : Type 0 where
  pub root : ℕ
  pub is : RootOf n p v root
  pub only : (r : ℕ) → RootOf n p v r → r ≡ root

pub one_root : {n : ℕ} {p : ℕ → ℕ} → Bounded n p → n ≤ nobody → Acyclic n p → (v : ℕ) → v < n → OneRoot n p v
one_root bounded room acyclic v low =
    let (r, is) = root_of bounded room acyclic v low in
    record { root = r; is = is; only = λ s is'. root_unique bounded room is' is }

-- the parents of the order are such parents
pub parents_bounded : {n : ℕ} {e : ℕ → ℕ → Bool} → IsGraph n e → n ≤ nobody → Bounded n (parent n e)
parents_bounded {n} {e} graph room =
    record { vertex = λ v. go (parent_is n e graph room v); outside = parent_outside n e graph room }
  where
    go : {v q : ℕ} → IsParent n e v q → (q ≡ nobody) ⊎ (q < n)
    go (orphan nought none) = inl nought
    go (child low beside early others) = inr low
