-- Document 01's tree obeys the laws of search trees, and the pruned engine's cut is safe. Prices of pairs that may be
-- changed are at least 1, so that no set with more pairs is better. Assumes nothing.
use mathlib.Core.Path.{◌≡◌, refl, ap, ◌∙◌}
use mathlib.Core.Logic.{◌⊎◌, inl, inr}
use mathlib.Core.Bool.{Bool, true, false}
use mathlib.Core.List.{List, [], ◌∷◌}
use Prim.Native.Nat.{ℕ, ◌+◌, ◌*◌, ◌≤◌, ◌<◌}
use native.Mathlib.Omega.{arith}
use borrow.Author.Tests.{ltb-true, not-true}
use Rattle.bits.specs.Choice.{count}
use Rattle.bits.proofs.Truth.{never, fails}
use Rattle.graph.specs.Graph.{IsGraph}
use Rattle.graph.specs.declared.Quad.{Quad}
use Rattle.std.specs.Prelude.{Option, None, Some}
use Rattle.graph.specs.Quad.{quads, first, Clean}
use Rattle.graph.proofs.Quads.{Named, listed_named, first_listed, clear_clean}
use Rattle.walk.proofs.Laws.{Laws, NotBetter, Ordered, marked}
use Rattle.repair.specs.Pair.{changeable, member}
use Rattle.repair.specs.Better.{price, better}
use Rattle.repair.specs.Repair.{toggled}
use Rattle.repair.specs.Packing.{those, pairs_of}
use Rattle.repair.specs.Tree.{Node, is_clear, ways_of, order, present, free, mark, add, tree, pruned}
use Rattle.repair.proofs.Orders.{cheaper_better, better_no_dearer, better_transitive, better_total}
use Rattle.repair.proofs.Sets.{member_none, member_here, member_there, member_out, all_at, all_in, those_out, lacks}
use Rattle.repair.proofs.Counts.{count_fewer, count_lost}
use Rattle.repair.proofs.Numbers.{changeable_below}
use Rattle.repair.proofs.Inserts.{insert_price}
use Rattle.repair.proofs.Toggling.{toggled_graph, toggled_parts}
use Rattle.repair.proofs.Supersets.{parts_price, superset_unbetter, lacks_parts}
use Rattle.repair.proofs.Bound.{clean_includes, bound_free}
use Rattle.repair.proofs.Nodes.{
  Fit,
  Below,
  free_changeable,
  free_unmarked,
  free_in,
  marks_more,
  fit_add,
  fit_mark,
  split,
  up_add,
  up_mark,
}

-- O1, as the search asks for it
pub ordered : (toll : ℕ → ℕ) → Ordered (order toll)
ordered toll =
    record {
      cheaper = cheaper_better toll;
      no_dearer = better_no_dearer toll;
      transitive = better_transitive toll;
      total = better_total toll;
    }

-- the pairs that are not fixed cost at least 1: what number 6 rules out
abbrev pub Positive : ℕ → (ℕ → ℕ) → Type 0
Positive n toll = (x : ℕ) → changeable n toll x ≡ true → 1 ≤ toll x

module _ (n : ℕ) (e : ℕ → ℕ → Bool) (toll : ℕ → ℕ) where
  -- what a repair below a node has besides the path
  abbrev rest : Node → List ℕ → List ℕ
  rest s a = those (lacks s.path) a

  rest_cleans : (s : Node) (a : List ℕ) → Below n e toll s a → Clean n (toggled n (present n e s) (rest s a))
  unfolding present
  rest_cleans s a b = rw (toggled_parts n e s.path (rest s a) a (lacks_parts s.path a b.has)) b.repair.cleans

  rest_free :
      (s : Node) (a : List ℕ) → Below n e toll s a → (x : ℕ) → member x (rest s a) ≡ true → free n toll s x ≡ true
  rest_free s a b x m =
      let (k, out) = those_out (lacks s.path) x a m in
      b.others x k (not-true (member x s.path) out)

  -- the pruned engine's cut: "price plus packing bound exceeds the limit"
  pub pruned_above :
      (s : Node) (limit : ℕ) (a : List ℕ) → Fit n e toll s → pruned n e toll s limit ≡ true → Below n e toll s a →
      limit < price toll a
  unfolding pruned
  pruned_above s limit a fit over b =
      omega (
        arith,
        ltb-true,
        bound_free n (present n e s) (rest s a) (free n toll s) (all_in (free n toll s) (rest s a) (rest_free s a b)) (rest_cleans s a b) toll,
        parts_price toll s.path a fit.sorted b.repair.sorted b.has,
      )

  -- the ways marked one after the other
  marked_path : (ws : List ℕ) (s : Node) → (marked (tree n e toll) s ws).path ≡ s.path
  unfolding marked mark
  marked_path [] s = refl
  marked_path (w ∷ ws) s = marked_path ws (mark s w)

  marked_present : (ws : List ℕ) (s : Node) → present n e (marked (tree n e toll) s ws) ≡ present n e s
  unfolding present
  marked_present ws s = ap (toggled n e) (marked_path ws s)

  marked_stays :
      (ws : List ℕ) (s : Node) (x : ℕ) → member x s.marks ≡ true → member x (marked (tree n e toll) s ws).marks ≡ true
  unfolding marked mark
  marked_stays [] s x m = m
  marked_stays (w ∷ ws) s x m = marked_stays ws (mark s w) x (member_there x w s.marks m)

  marked_holds :
      (ws : List ℕ) (s : Node) (x : ℕ) → member x ws ≡ true → member x (marked (tree n e toll) s ws).marks ≡ true
  unfolding marked mark
  marked_holds [] s x m = absurd (member_none x m)
  marked_holds (w ∷ ws) s x m = go (marked_holds ws (mark s w) x) (member_out x w ws m)
    where
      go :
          (member x ws ≡ true → member x (marked (tree n e toll) (mark s w) ws).marks ≡ true) →
          (x ≡ w) ⊎ (member x ws ≡ true) → member x (marked (tree n e toll) (mark s w) ws).marks ≡ true
      go ih (inl q) =
          marked_stays ws (mark s w) x (ap (λ z. member z (w ∷ s.marks)) q ∙ member_here w s.marks)
      go ih (inr k) = ih k

  -- once the six pairs of a quad are marked no repair is left: it would include one of them
  spent_quad :
      (s : Node) (q : Quad) (a : List ℕ) → Named n (present n e s) q →
      ((x : ℕ) → member x (pairs_of n q) ≡ true → member x s.marks ≡ true) → Below n e toll s a → ⊥
  spent_quad s q a is held b =
      let i = clean_includes n (present n e s) (rest s a) (rest_cleans s a b) q is in
      never (held i.pair i.of_quad) (free_unmarked n toll s i.pair (rest_free s a b i.pair i.of_set))

  pub go :
      (s : Node) (a : List ℕ) → Fit n e toll s → is_clear (first (quads n (present n e s))) ≡ false →
      Below n e toll (marked (tree n e toll) s (ways_of n (first (quads n (present n e s))))) a → ⊥
  go s a fit d b = at (first (quads n (present n e s))) refl d b
    where
      listed : (q : Quad) → first (quads n (present n e s)) ≡ Some q → Named n (present n e (marked (tree n e toll) s (pairs_of n q))) q
      listed q p = rw (marked_present (pairs_of n q) s) (listed_named n (present n e s) q (first_listed n (present n e s) q p))

      at :
          (f : Option Quad) → first (quads n (present n e s)) ≡ f → is_clear f ≡ false →
          Below n e toll (marked (tree n e toll) s (ways_of n f)) a → ⊥
      at (Some q) p d b =
          spent_quad (marked (tree n e toll) s (pairs_of n q)) q a (listed q p)
          (marked_holds (pairs_of n q) s) b
      at None p d b = never refl d

  -- one mark more: fewer free pairs, or one less if it was free
  free_fewer : (s : Node) (w x : ℕ) → free n toll (mark s w) x ≡ true → free n toll s x ≡ true
  unfolding mark
  free_fewer s w x h =
      free_in n toll s x (free_changeable n toll (mark s w) x h) (marks_more x w s.marks (free_unmarked n toll (mark s w) x h))

  free_lost : (s : Node) (w : ℕ) → free n toll (mark s w) w ≡ false
  unfolding mark
  free_lost s w = fails (λ h. never (member_here w s.marks) (free_unmarked n toll (mark s w) w h))

  free_added : (s : Node) (w : ℕ) → free n toll (add s w) ≡ free n toll (mark s w)
  unfolding free add mark
  free_added s w = refl

  pub spent_add : (s : Node) (w : ℕ) → price toll (add s w).path ≡ price toll s.path + toll w
  unfolding add
  spent_add s w = omega (arith, insert_price toll w s.path)

  pub spent_mark : (s : Node) (w : ℕ) → price toll (mark s w).path ≡ price toll s.path
  unfolding mark
  spent_mark s w = refl

  pub spent_below : (s : Node) (a : List ℕ) → Fit n e toll s → Below n e toll s a → price toll s.path ≤ price toll a
  spent_below s a fit b = omega (arith, parts_price toll s.path a fit.sorted b.repair.sorted b.has)

  pub count_add :
      (s : Node) (w : ℕ) → free n toll s w ≡ true → count (free n toll (add s w)) (n * n) < count (free n toll s) (n * n)
  count_add s w h =
      rw (free_added s w)
      (count_lost (free n toll (mark s w)) (free n toll s) (free_fewer s w) w (n * n)
      (changeable_below n toll w (free_changeable n toll s w h)) (free_lost s w) h)

  pub count_mark : (s : Node) (w : ℕ) → count (free n toll (mark s w)) (n * n) ≤ count (free n toll s) (n * n)
  count_mark s w = count_fewer (free n toll (mark s w)) (free n toll s) (free_fewer s w) (n * n)

  module _ (graph : IsGraph n e) (positive : Positive n toll) where
    pub stop : (s : Node) → Fit n e toll s → is_clear (first (quads n (present n e s))) ≡ true → Below n e toll s s.path
    unfolding present
    stop s fit d =
        record {
          repair =
              record {
                sorted = fit.sorted;
                allowed = fit.allowed;
                cleans = clear_clean n (toggled n e s.path) (toggled_graph n e graph s.path) (clear (first (quads n (toggled n e s.path))) d);
              };
          has = λ x m. m;
          others = λ x m out. never m out;
        }
      where
        clear : (f : Option Quad) → is_clear f ≡ true → f ≡ None
        clear (Some q) h = never h refl
        clear None h = refl

    pub beats : (s : Node) (a : List ℕ) → Fit n e toll s → Below n e toll s a → better toll a s.path ≡ false
    beats s a fit b =
        superset_unbetter toll s.path a fit.sorted b.repair.sorted b.has
        (λ x m. positive x (all_at (changeable n toll) x a b.repair.allowed m))

    abbrev pub laws : Laws (tree n e toll) (price toll) (NotBetter (order toll))
    laws =
        record {
          Fit = Fit n e toll;
          Below = Below n e toll;
          count = λ s. count (free n toll s) (n * n);
          fit_add = fit_add n e toll;
          fit_mark = fit_mark n e toll;
          stop = stop;
          beats = λ s a fit d b. beats s a fit b;
          go = go;
          split = split n e toll;
          up_add = up_add n e toll;
          up_mark = up_mark n e toll;
          spent_answer = λ s fit. refl;
          spent_add = λ s w fit h. spent_add s w;
          spent_mark = λ s w fit. spent_mark s w;
          spent_below = spent_below;
          count_add = λ s w fit h. count_add s w h;
          count_mark = λ s w fit. count_mark s w;
        }
