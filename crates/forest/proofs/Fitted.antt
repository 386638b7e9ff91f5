-- A graph that some forest fits is clean: of three vertices in a path without a third edge the middle one is an ancestor
-- of both others, and a quad's two middle vertices would make its ends comparable. Assumes nothing.
use mathlib.Core.Path.{◌≡◌}
use mathlib.Core.Logic.{◌⊎◌, inl, inr, ◌≢◌, ◌↔◌}
use mathlib.Core.Bool.{Bool, true, false}
use Prim.Native.Nat.{ℕ, ◌<◌, ◌≤◌}
use Rattle.bits.proofs.Truth.{never, fails}
use Rattle.graph.specs.Graph.{IsGraph}
use Rattle.graph.specs.Quad.{Clean}
use Rattle.forest.specs.Order.{nobody, parent}
use Rattle.forest.specs.Forest.{Ancestor, Fits, Acyclic}
use Rattle.forest.proofs.Ancestors.{ancestor_transitive, ancestor_line}
use Rattle.forest.proofs.Fitting.{parents_acyclic, parents_fit}
use Rattle.forest.proofs.Shape.{Shape, quad_shape, edge_apart}

module _ {n : ℕ} {e : ℕ → ℕ → Bool} {p : ℕ → ℕ} (graph : IsGraph n e) (fits : Fits n e p) where
  -- b joins a and c, which are not joined: it is an ancestor of a
  pub middle : {a b c : ℕ} → a < n → b < n → c < n → a ≢ c → e a b ≡ true → e b c ≡ true → e a c ≡ false
      → Ancestor p b a
  middle {a} {b} {c} ha hb hc apart ab bc no_ac =
      go ((fits a b ha hb (edge_apart graph ab)).0 ab) ((fits b c hb hc (edge_apart graph bc)).0 bc)
    where
      joined : Ancestor p a c ⊎ Ancestor p c a → Ancestor p b a
      joined above = never ((fits a c ha hc apart).1 above) no_ac

      line : (a ≡ c) ⊎ (Ancestor p a c ⊎ Ancestor p c a) → Ancestor p b a
      line (inl same) = absurd (apart same)
      line (inr above) = joined above

      go : Ancestor p a b ⊎ Ancestor p b a → Ancestor p b c ⊎ Ancestor p c b → Ancestor p b a
      go (inr up) s = up
      go (inl down) (inl up) = joined (inl (ancestor_transitive down up))
      go (inl down) (inr down') = line (ancestor_line down down')

  pub fitted_clean : Clean n e
  fitted_clean a b c d ha hb hc hd = fails (λ q. clash (quad_shape e a b c d q))
    where
      clash : Shape e a b c d → ⊥
      clash s =
          let b_over_a = middle ha hb hc s.outer s.ab s.bc s.no_ac in
          let c_over_b = middle hb hc hd s.inner s.bc s.cd s.no_bd in
          never ((fits a c ha hc s.outer).1 (inr (ancestor_transitive c_over_b b_over_a))) s.no_ac

-- so a graph is clean exactly if some forest fits it
pub clean_fitted : {n : ℕ} {e : ℕ → ℕ → Bool} → IsGraph n e → n ≤ nobody
    → Clean n e ↔ ((p : ℕ → ℕ) × Acyclic n p × Fits n e p)
clean_fitted {n} {e} graph room = (
  λ clean. (parent n e, parents_acyclic graph room, parents_fit graph room clean),
  λ forest. fitted_clean graph forest.2,
)
