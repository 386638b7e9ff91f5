-- The memory at the start stands for the root: the words of the graph, the table of the prices, and empty lists.
-- Assumes nothing.
use mathlib.Core.Path.{◌≡◌, refl, sym, ap, ◌∙◌, fun_ext}
use mathlib.Core.Logic.{◌⊎◌, inl, inr}
use mathlib.Core.Bool.{Bool, true, false, ◌&&◌}
use mathlib.Core.List.{List, []}
use Prim.Native.Nat.{ℕ, suc, ◌+◌, ◌*◌, ◌/◌, ◌%◌, ◌≤◌, ◌<◌}
use native.Mathlib.Nat.{div-lt_iff_lt-mul, mod-lt, mul-sub, mul-one}
use native.Mathlib.Omega.{arith}
use borrow.Author.Tests.{ltb-true, lt-ltb}
use lib.Dec.{ltb}
use lib.ListN.{length, get_or}
use Rattle.bits.specs.Choice.{pick}
use Rattle.bits.proofs.Truth.{which, and_in, and_left, and_right, and_on, pick_false}
use Rattle.bits.proofs.Counting.{count_mono}
use Rattle.std.specs.Prelude.{Ok, None}
use Rattle.graph.specs.Price.{fixed, price_entries}
use Rattle.graph.specs.Graph.{IsGraph, row_edge, word_edge}
use Rattle.graph.specs.Rows.{Flat}
use Rattle.walk.specs.Walk.{begin}
use Rattle.walk.specs.Best.{best_of, limit_of}
use Rattle.repair.specs.Pair.{is_pair, changeable, member}
use Rattle.repair.specs.Better.{price}
use Rattle.repair.specs.Repair.{toll_of, toggled}
use Rattle.repair.specs.Tree.{root, order, present, free, searched}
use Rattle.repair.proofs.Counts.{count_most}
use Rattle.repair.proofs.Sets.{member_none}
use Rattle.repair.proofs.Toggling.{toggled_stays}
use Rattle.repair.proofs.Pairs.{pairs_counted}
use Rattle.repair.proofs.Tolls.{some_vertex}
use Rattle.memory.specs.declared.Tally.{Tally}
use Rattle.bound.specs.Table.{toll_at, free_at}
use Rattle.bound.specs.Costs.{cost_at, Costs}
use Rattle.bound.proofs.Alike.{toll_made, free_made}
use Rattle.memory.specs.Table.{Place}
use Rattle.search.specs.Memory.{open_pairs}
use Rattle.search.specs.Memory.{pairs, At, Same, Follows}
use Rattle.search.specs.Steps.{Ready, NodeLeft}
use Rattle.search.specs.Ends.{Engaged}
use Rattle.search.proofs.Placing.{index}

-- nothing toggled is the graph
pub toggled_none : (n : ℕ) (e : ℕ → ℕ → Bool) → toggled n e [] ≡ e
toggled_none n e = fun_ext (λ i. fun_ext (λ j. toggled_stays n e [] i j (unfold member in refl)))

module _ (n : ℕ) (ps cost : List ℕ) (few : n ≤ 128) (made : Costs n ps cost) where
  -- only pairs of the n vertices cost less than 65,535
  pub table_placed : (p : ℕ) → p < 16384 → get_or cost p 0 < fixed → Place n p
  table_placed p fits costs = go (which (ltb (p / 128) (p % 128) && ltb (p % 128) n))
    where
      says : get_or cost p 0 ≡ pick (ltb (p / 128) (p % 128) && ltb (p % 128) n) (get_or ps (p / 128 * n + p % 128) 0) fixed
      says = made.each p fits ∙ (unfold cost_at in refl)

      go :
          ((ltb (p / 128) (p % 128) && ltb (p % 128) n) ≡ true) ⊎ ((ltb (p / 128) (p % 128) && ltb (p % 128) n) ≡ false) →
          Place n p
      go (inl h) =
          record {
            apart = ltb-true (p / 128) (p % 128) (and_left (ltb (p / 128) (p % 128)) _ h);
            inside = ltb-true (p % 128) n (and_right (ltb (p / 128) (p % 128)) _ h);
          }
      go (inr h) = absurd (omega (arith, says, pick_false (get_or ps (p / 128 * n + p % 128) 0) fixed h))

  -- a free number is that of a pair, so there is room for every free pair
  open_pair : (x : ℕ) → x < n * n → free_at n cost x ≡ true → is_pair n x ≡ true
  unfolding free_at toll_at is_pair
  open_pair x l h =
      let some = some_vertex n x l in
      let row = (div-lt_iff_lt-mul some).1 l in
      let column = mod-lt x some in
      let at = table_placed (index n x) (omega arith) (ltb-true (get_or cost (index n x) 0) fixed h) in
      and_in (lt-ltb x (n * n) l) (lt-ltb (x / n) (x % n) (omega (arith, at.apart)))

  pub open_room : open_pairs n cost ≤ pairs n
  unfolding open_pairs pairs
  open_room = omega (arith, count_mono (n * n) {f = free_at n cost} {g = is_pair n} open_pair, pairs_counted n, mul-sub n n 1, mul-one n)

  module _ (fine : price_entries n ps ≡ Ok tt) where
    -- at the root a pair is free if it may be changed
    free_root : (x : ℕ) → free n (toll_of ps) root x ≡ changeable n (toll_of ps) x
    unfolding free member
    free_root x = and_on (changeable n (toll_of ps) x) refl

    pub open_root : (x : ℕ) → is_pair n x ≡ true → free_at n cost x ≡ free n (toll_of ps) root x
    open_root x pair = free_made n few ps cost made fine x pair ∙ sym (free_root x)

    pub toll_root : (x : ℕ) → free n (toll_of ps) root x ≡ true → toll_at n cost x ≡ toll_of ps x
    unfolding changeable
    toll_root x h = toll_made n few ps cost made fine x (and_left (is_pair n x) _ (sym (free_root x) ∙ h))

-- the tally at the start
abbrev pub start : ℕ → Tally
start k = record { steps = 0; limit = k; kept = None }

-- the root
module _
    {n : ℕ} {rows : List (List ℕ)} {ps : List ℕ} {k : ℕ} {list words cost : List ℕ} (path kept : List ℕ)
    (given : Engaged n rows ps k list)
    (flat : Flat rows words)
    (made : Costs n ps cost)
    (empty : path ≡ [])
    (wide : length kept ≡ 8128)
  where
    graph_words : IsGraph n (word_edge words)
    graph_words = rw flat.edges given.graph

    pub ready_root : (most : ℕ) → most < 4294967296 → Ready n most words cost path kept 0 (start k)
    ready_root most large =
        record {
          safe =
              record {
                few = given.few;
                shape = flat.shape;
                graph = graph_words;
                table = made.many;
                placed = table_placed n ps cost given.few made;
                wide = wide;
                room = omega (arith, ap length empty, open_room n ps cost given.few made);
                paid = omega arith;
              };
          sound =
              record {
                counted = omega arith;
                bounded = given.within;
                listed = tt;
              };
          large = large;
        }

    pub at_root : At n (row_edge rows) (toll_of ps) root words cost path 0
    at_root =
        record {
          edges = flat.edges ∙ sym (unfold present in toggled_none n (row_edge rows));
          opens = open_root n ps cost given.few made given.priced;
          tolls = toll_root n ps cost given.few made given.priced;
          trail = empty;
          price = unfold price in refl;
          held = λ x m. absurd (member_none x m);
        }

    pub same_root : (most : ℕ) → Same (toll_of ps) k most (begin (best_of (order (toll_of ps)) k)) (start k) kept
    same_root most =
        record { steps = refl; within = omega arith; limit = unfold limit_of in refl; kept = refl }

    -- the whole tree is walked from there
    pub followed :
        (prune : Bool) (most : ℕ) (r : Tally) (words' cost' path' kept' : List ℕ) →
        NodeLeft n prune most words cost path kept 0 (start k) r words' cost' path' kept' →
        Follows (toll_of ps) k most (searched n (row_edge rows) (toll_of ps) prune k most) r kept'
    followed prune most r words' cost' path' kept' did =
        unfold searched in
        did.walked (row_edge rows) (toll_of ps) k (suc (n * n)) root (begin (best_of (order (toll_of ps)) k)) at_root
        (omega (arith, count_most (free n (toll_of ps) root) (n * n))) (same_root most)
