-- In a clean graph the parents of the order fit: the ancestors of a vertex are exactly its neighbours that come before it,
-- since these form a chain and the parent is the last of them. In any graph the parents make trees. Assumes nothing.
use mathlib.Core.Path.{◌≡◌, refl, sym, ◌∙◌, ap}
use mathlib.Core.Logic.{inl, inr, ⊎_elim, ◌≢◌}
use mathlib.Core.Bool.{Bool, true}
use Prim.Native.Nat.{ℕ, zero, suc, ◌<◌, ◌≤◌}
use native.Mathlib.Omega.{arith}
use Rattle.bits.specs.Choice.{count}
use Rattle.bits.proofs.Truth.{never}
use Rattle.bits.proofs.Counting.{count_less}
use Rattle.graph.specs.Graph.{IsGraph}
use Rattle.graph.specs.Quad.{Clean}
use Rattle.forest.specs.Order.{before, nobody, parent}
use Rattle.forest.specs.Forest.{Ancestor, near, far, Fits, Acyclic}
use Rattle.forest.proofs.Finite.{equal_or_not}
use Rattle.forest.proofs.Orders.{before_degree, before_asymmetric, before_irreflexive, before_transitive, before_total}
use Rattle.forest.proofs.Parents.{IsParent, orphan, child, parent_is}
use Rattle.forest.proofs.Shape.{edge_mirror}
use Rattle.forest.proofs.Nested.{nested}

-- u is a neighbour of v that comes before it
pub record Above (n : ℕ) (e : ℕ → ℕ → Bool) (u v : ℕ) : Type 0 where
  pub joined : e v u ≡ true
  pub earlier : before n e u v ≡ true

module _ {n : ℕ} {e : ℕ → ℕ → Bool} (graph : IsGraph n e) (room : n ≤ nobody) where
  -- a parent that is a vertex stands above its child, which is one too
  pub parent_above : {u v : ℕ} → u < n → parent n e v ≡ u → Above n e u v
  parent_above {u} {v} low is = go (parent_is n e graph room v)
    where
      go : IsParent n e v (parent n e v) → Above n e u v
      go (orphan nought none) = absurd (omega arith)
      go (child low' beside early others) =
          record { joined = ap (e v) (sym is) ∙ beside; earlier = ap (λ x. before n e x v) (sym is) ∙ early }

  pub ancestor_vertex : {u v : ℕ} → u < n → Ancestor (parent n e) u v → v < n
  ancestor_vertex {u} {v} low (near is) = (graph.inside v u (parent_above low is).joined).0
  ancestor_vertex {v = v} low (far {w = w} is above) =
      (graph.inside v w (parent_above (ancestor_vertex low above) is).joined).0

  -- an ancestor comes before, so nobody is an ancestor of their own
  pub ancestor_before : {u v : ℕ} → u < n → Ancestor (parent n e) u v → before n e u v ≡ true
  ancestor_before low (near is) = (parent_above low is).earlier
  ancestor_before {u} {v} low (far {w = w} is above) =
      before_transitive n e u w v (ancestor_before low above) (parent_above (ancestor_vertex low above) is).earlier

  pub parents_acyclic : Acyclic n (parent n e)
  parents_acyclic v low round = before_asymmetric n e v v (ancestor_before low round) (ancestor_before low round)

  module _ (clean : Clean n e) where
    -- who stands above one that stands above v stands above v
    pub above_transitive : {u v w : ℕ} → Above n e u v → Above n e w u → Above n e w v
    above_transitive {u} {v} {w} a b = record { joined = edge_mirror graph beside; earlier = early }
      where
        early : before n e w v ≡ true
        early = before_transitive n e w u v b.earlier a.earlier

        apart : v ≢ w
        apart same = never (ap (before n e w) (sym same) ∙ early) (before_irreflexive n e w)

        beside : e w v ≡ true
        beside =
            nested graph clean (edge_mirror graph b.joined) (before_degree n e w u b.earlier) v
            (edge_mirror graph a.joined) apart

    -- those above v form a chain
    pub above_chain : {u v w : ℕ} → Above n e u v → Above n e w v → before n e w u ≡ true → Above n e w u
    above_chain {u} {v} {w} a b early = record { joined = beside; earlier = early }
      where
        apart : w ≢ u
        apart same = never (ap (before n e w) same ∙ early) (before_irreflexive n e w)

        beside : e u w ≡ true
        beside =
            nested graph clean (edge_mirror graph a.joined) (before_degree n e u v a.earlier) w b.joined apart

    -- the ancestors of v are those above it: each is
    pub ancestor_above : {u v : ℕ} → u < n → Ancestor (parent n e) u v → Above n e u v
    ancestor_above low (near is) = parent_above low is
    ancestor_above low (far is above) =
        above_transitive (parent_above (ancestor_vertex low above) is) (ancestor_above low above)

    -- and there are no others: one above v is its parent, or stands above its parent, before which fewer come
    fewer_before : (v w : ℕ) → w < n → before n e w v ≡ true
        → count (λ x. before n e x w) n < count (λ x. before n e x v) n
    fewer_before v w low early =
        count_less n (λ x l t. before_transitive n e x w v t early) w low (before_irreflexive n e w) early

    climb : (k u v : ℕ) → count (λ x. before n e x v) n < k → Above n e u v → Ancestor (parent n e) u v
    climb zero u v less a = absurd (omega arith)
    climb (suc k) u v less a = go (climb k u (parent n e v)) (parent_is n e graph room v)
      where
        go : (count (λ x. before n e x (parent n e v)) n < k → Above n e u (parent n e v)
            → Ancestor (parent n e) u (parent n e v))
            → IsParent n e v (parent n e v) → Ancestor (parent n e) u v
        go up (orphan nought none) = never a.earlier (none u a.joined)
        go up (child low beside early others) =
            ⊎_elim (λ same. near (sym same))
            (λ apart. far refl (up (omega (arith, fewer_before v (parent n e v) low early))
            (above_chain (record { joined = beside; earlier = early }) a (others u a.joined a.earlier apart))))
            (equal_or_not u (parent n e v))

    pub above_ancestor : {u v : ℕ} → Above n e u v → Ancestor (parent n e) u v
    above_ancestor {u} {v} a = climb (suc (count (λ x. before n e x v) n)) u v (omega arith) a

    pub parents_fit : Fits n e (parent n e)
    parents_fit u v hu hv apart = (
      λ edge. ⊎_elim (λ early. inl (above_ancestor (record { joined = edge_mirror graph edge; earlier = early })))
          (λ early. inr (above_ancestor (record { joined = edge; earlier = early }))) (before_total n e u v apart),
      ⊎_elim (λ up. edge_mirror graph (ancestor_above hu up).joined) (λ up. (ancestor_above hv up).joined),
    )
