-- In a clean graph, of two adjacent vertices the one of no smaller degree is adjacent to every neighbour of the other. By
-- counting: a neighbour of v alone leaves a neighbour of u alone, and the four make a quad. Assumes nothing.
use mathlib.Core.Path.{◌≡◌, sym, ◌∙◌}
use mathlib.Core.Logic.{⊎_elim, ◌≢◌}
use mathlib.Core.Bool.{Bool, true, false, not, ◌&&◌}
use Prim.Native.Nat.{ℕ, ◌<◌, ◌≤◌}
use native.Mathlib.Omega.{arith}
use lib.Dec.{eqb}
use borrow.Author.Tests.{eqb-false, ne_eqb, not-true, not-false}
use Rattle.bits.specs.Choice.{count}
use Rattle.bits.proofs.Truth.{never, passes, and_in, and_left, and_right, and_off_left, and_out, not_in}
use Rattle.bits.proofs.Counting.{count_less}
use Rattle.graph.specs.Graph.{IsGraph}
use Rattle.graph.specs.Quad.{Clean}
use Rattle.forest.specs.Order.{degree}
use Rattle.forest.proofs.Finite.{look}
use Rattle.forest.proofs.Counted.{count_others}
use Rattle.forest.proofs.Shape.{Shape, shape_quad, edge_apart, edge_mirror}

module _ {n : ℕ} {e : ℕ → ℕ → Bool} (graph : IsGraph n e) (clean : Clean n e) where
  -- the four vertices of a quad are not found in a clean graph
  pub no_shape : {a b c d : ℕ} → Shape e a b c d → ⊥
  no_shape {a} {b} {c} {d} s =
      let front = graph.inside a b s.ab in
      let back = graph.inside c d s.cd in
      never (shape_quad graph a b c d s) (clean a b c d front.0 front.1 back.0 back.1)

  module _ {u v : ℕ} (near : e u v ≡ true) (more : degree n e v ≤ degree n e u) where
    -- a neighbour of u alone: neither v nor a neighbour of v
    abbrev lone : ℕ → Bool
    lone y = e u y && not (eqb y v) && not (e v y)

    -- where u has none, v has none
    shared : ((y : ℕ) → y < n → lone y ≡ false) → (x : ℕ) → e v x ≡ true → x ≢ u → e u x ≡ true
    unfolding degree
    shared nowhere x beside apart = passes (λ alone.
        let less : count (λ y. e u y && not (eqb y v)) n < count (λ y. e v y && not (eqb y u)) n =
        count_less n among x (graph.inside v x beside).1 (and_off_left (not (eqb x v)) alone)
        (and_in beside (not_in (ne_eqb x u apart))) in
        let of_u = count_others (e u) n v (graph.inside u v near).1 near in
        let of_v = count_others (e v) n u (graph.inside u v near).0 (edge_mirror graph near) in
        omega arith)
      where
        among : (y : ℕ) → y < n → (e u y && not (eqb y v)) ≡ true → (e v y && not (eqb y u)) ≡ true
        among y low t =
            and_in (not-false (e v y) (⊎_elim (λ off. never t off) (λ off. off)
            (and_out (e u y && not (eqb y v)) (not (e v y)) (nowhere y low))))
            (not_in (ne_eqb y u (λ same. edge_apart graph (and_left (e u y) (not (eqb y v)) t) (sym same))))

    -- where u has one, a neighbour of v alone would make a quad with it
    joined : (y : ℕ) → lone y ≡ true → (x : ℕ) → e v x ≡ true → x ≢ u → e u x ≡ true
    joined y on x beside apart =
        let other : (e u y && not (eqb y v)) ≡ true = and_left _ (not (e v y)) on in
        let unlike : y ≢ v = eqb-false y v (not-true (eqb y v) (and_right (e u y) (not (eqb y v)) other)) in
        passes (λ alone. no_shape (record {
          outer = apart;
          inner = λ same. unlike (sym same);
          ab = edge_mirror graph beside;
          bc = edge_mirror graph near;
          cd = and_left (e u y) (not (eqb y v)) other;
          no_ac = graph.mirrored x u ∙ alone;
          no_bd = not-true (e v y) (and_right (e u y && not (eqb y v)) (not (e v y)) on);
        }))

    -- so a neighbour of v is one of u
    pub nested : (x : ℕ) → e v x ≡ true → x ≢ u → e u x ≡ true
    nested x beside apart =
        ⊎_elim (λ some. joined some.0 some.2 x beside apart) (λ nowhere. shared nowhere x beside apart)
        (look lone n)
