-- "A four-cycle with a chord is clean": four vertices with edges ab, bc, cd, da and ac or bd have no quad in any order of
-- them. One closed test over all arrangements, for both cases of the pair left. Assumes nothing.
use mathlib.Core.Path.{◌≡◌, refl, sym, ◌∙◌, subst}
use mathlib.Core.Logic.{◌⊎◌, inl, inr}
use mathlib.Core.Bool.{Bool, true, false, not}
use mathlib.Core.List.{List, [], ◌∷◌}
use Prim.Native.Nat.{ℕ}
use borrow.Author.Tests.{not-true}
use Rattle.bits.proofs.Truth.{never}
use Rattle.graph.specs.declared.Quad.{Quad}
use Rattle.graph.specs.Graph.{IsGraph, edge}
use Rattle.graph.specs.Each.{each, only}
use Rattle.graph.specs.Refusal.{first_of}
use Rattle.graph.specs.Check.{entry, entries}
use Rattle.graph.specs.Quad.{Clean, quads, is_quad, named}
use Rattle.graph.proofs.Facts.{Apart}
use Rattle.graph.proofs.Places.{Place, quad_at, always, always_four, Table, quad_at_lem, six, graph_table}
use Rattle.graph.proofs.Arrange.{vertex, Arranges, IsQuad, arranged_placed}
use Rattle.graph.proofs.Reading.{entries_graph}
use Rattle.graph.proofs.Quads.{clear_clean}

-- a cycle a, b, c, d with a chord
pub record Chorded (e : ℕ → ℕ → Bool) (q : Quad) : Type 0 where
  pub apart : Apart q.a q.b q.c q.d
  pub ab : e q.a q.b ≡ true
  pub bc : e q.b q.c ≡ true
  pub cd : e q.c q.d ≡ true
  pub da : e q.d q.a ≡ true
  pub chord : (e q.a q.c ≡ true) ⊎ (e q.b q.d ≡ true)

-- the edges of a cycle, by whether ac and bd are joined
abbrev ring : Bool → Bool → Place → Place → Bool
ring ac bd = six true ac true true bd true

-- where one of them is, no arrangement is a quad
no_quad :
    (ac bd : Bool) → (ac ≡ true) ⊎ (bd ≡ true) →
    always (λ i. always (λ j. always (λ k. always (λ l. not (quad_at (ring ac bd) i j k l))))) ≡ true
no_quad true true h = refl
no_quad true false h = refl
no_quad false true h = refl
no_quad false false (inl p) = never p refl
no_quad false false (inr p) = never p refl

module _ (n : ℕ) (e : ℕ → ℕ → Bool) (G : IsGraph n e) where
  ring_table : (q : Quad) → Chorded e q → Table e (vertex q) (ring (e q.a q.c) (e q.b q.d))
  ring_table q C =
      let ad = G.mirrored q.a q.d ∙ C.da in
      let T = graph_table n e G q.a q.b q.c q.d C.apart in
      rw (C.ab, ad, C.bc, C.cd) at T

  -- no arrangement of a cycle with a chord is a quad
  pub chord_no_quad : (q p : Quad) → Chorded e q → Arranges q p → IsQuad e p → ⊥
  chord_no_quad q p C A h =
      never
      (sym (quad_at_lem e (vertex q) t (ring_table q C) A.a_of A.b_of A.c_of A.d_of) ∙
      subst (IsQuad e) (arranged_placed q p A) h)
      (not-true (quad_at t A.a_of A.b_of A.c_of A.d_of)
      (always_four (λ i j k l. not (quad_at t i j k l)) tested A.a_of A.b_of A.c_of A.d_of))
    where
      t : Place → Place → Bool
      t = ring (e q.a q.c) (e q.b q.d)

      tested : always (λ i. always (λ j. always (λ k. always (λ l. not (quad_at t i j k l))))) ≡ true
      tested = no_quad (e q.a q.c) (e q.b q.d) C.chord

-- edges 01, 12, 23, 03, 02
pub chorded_four : List ℕ
chorded_four = 0 ∷ 1 ∷ 1 ∷ 1 ∷ 1 ∷ 0 ∷ 1 ∷ 0 ∷ 1 ∷ 1 ∷ 0 ∷ 1 ∷ 1 ∷ 0 ∷ 1 ∷ 0 ∷ []

pub chorded_four_clean : Clean 4 (edge 4 chorded_four)
unfolding chorded_four entries first_of each entry edge quads is_quad named only
chorded_four_clean =
    clear_clean 4 (edge 4 chorded_four) (entries_graph 4 chorded_four refl) refl
