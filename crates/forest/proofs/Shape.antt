-- What the test of a quad says of its four vertices, and back: in a graph three edges and two non-edges make most of the
-- vertices different of themselves. Assumes nothing.
use mathlib.Core.Path.{◌≡◌, sym, ◌∙◌, ap}
use mathlib.Core.Logic.{◌≢◌}
use mathlib.Core.Bool.{Bool, true, false, not, ◌&&◌}
use Prim.Native.Nat.{ℕ}
use lib.Dec.{eqb}
use borrow.Author.Tests.{eqb-false, ne_eqb, not-true}
use Rattle.bits.proofs.Truth.{never, and_in, and_left, and_right, not_in}
use Rattle.graph.specs.Graph.{IsGraph}
use Rattle.graph.specs.Quad.{different, is_quad}

-- edges ab, bc, cd and non-edges ac, bd, where a and c, and b and d, are different
pub record Shape (e : ℕ → ℕ → Bool) (a b c d : ℕ) : Type 0 where
  pub outer : a ≢ c
  pub inner : b ≢ d
  pub ab : e a b ≡ true
  pub bc : e b c ≡ true
  pub cd : e c d ≡ true
  pub no_ac : e a c ≡ false
  pub no_bd : e b d ≡ false

-- what an edge joins is different
pub edge_apart : {n : ℕ} {e : ℕ → ℕ → Bool} → IsGraph n e → {u v : ℕ} → e u v ≡ true → u ≢ v
edge_apart {e = e} graph {u} near same = never (ap (e u) same ∙ near) (graph.loopless u)

pub edge_mirror : {n : ℕ} {e : ℕ → ℕ → Bool} → IsGraph n e → {u v : ℕ} → e u v ≡ true → e v u ≡ true
edge_mirror graph {u} {v} near = graph.mirrored v u ∙ near

-- the two pairs of different vertices that no edge keeps apart
outer_apart : (a b c d : ℕ) → different a b c d ≡ true → a ≢ c
outer_apart a b c d h =
    eqb-false a c (not-true (eqb a c) (and_right (not (eqb a b)) (not (eqb a c))
    (and_left _ (not (eqb a d))
    (and_left _ (not (eqb b c)) (and_left _ (not (eqb b d)) (and_left _ (not (eqb c d)) h))))))

inner_apart : (a b c d : ℕ) → different a b c d ≡ true → b ≢ d
inner_apart a b c d h =
    eqb-false b d (not-true (eqb b d)
    (and_right (not (eqb a b) && not (eqb a c) && not (eqb a d) && not (eqb b c)) (not (eqb b d))
    (and_left _ (not (eqb c d)) h)))

pub shape_quad : {n : ℕ} {e : ℕ → ℕ → Bool} → IsGraph n e → (a b c d : ℕ) → Shape e a b c d → is_quad e a b c d ≡ true
unfolding is_quad
shape_quad {e = e} graph a b c d s =
    and_in
    (and_in
    (and_in
    (and_in
    (and_in
    (and_in
    (and_in
    (and_in
    (and_in
    (and_in (unlike (edge_apart graph s.ab)) (unlike s.outer))
    (unlike ends))
    (unlike (edge_apart graph s.bc)))
    (unlike s.inner))
    (unlike (edge_apart graph s.cd)))
    s.ab)
    s.bc)
    s.cd)
    (not_in s.no_ac))
    (not_in s.no_bd)
  where
    unlike : {u v : ℕ} → u ≢ v → not (eqb u v) ≡ true
    unlike {u} {v} apart = not_in (ne_eqb u v apart)

    ends : a ≢ d
    ends same = never (edge_mirror graph s.cd) (ap (λ x. e x c) (sym same) ∙ s.no_ac)

pub quad_shape : (e : ℕ → ℕ → Bool) (a b c d : ℕ) → is_quad e a b c d ≡ true → Shape e a b c d
unfolding is_quad
quad_shape e a b c d h =
    let to_ac : (different a b c d && e a b && e b c && e c d && not (e a c)) ≡ true = and_left _ (not (e b d)) h in
    let to_cd : (different a b c d && e a b && e b c && e c d) ≡ true = and_left _ (not (e a c)) to_ac in
    let to_bc : (different a b c d && e a b && e b c) ≡ true = and_left _ (e c d) to_cd in
    let to_ab : (different a b c d && e a b) ≡ true = and_left _ (e b c) to_bc in
    let unlike : different a b c d ≡ true = and_left _ (e a b) to_ab in
    record {
      outer = outer_apart a b c d unlike;
      inner = inner_apart a b c d unlike;
      ab = and_right (different a b c d) (e a b) to_ab;
      bc = and_right (different a b c d && e a b) (e b c) to_bc;
      cd = and_right (different a b c d && e a b && e b c) (e c d) to_cd;
      no_ac = not-true (e a c) (and_right (different a b c d && e a b && e b c && e c d) (not (e a c)) to_ac);
      no_bd =
          not-true (e b d) (and_right (different a b c d && e a b && e b c && e c d && not (e a c)) (not (e b d)) h);
    }
