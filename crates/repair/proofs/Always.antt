-- With no fixed pair and the greatest budget there is always a repair: toggling every edge leaves the empty graph, and
-- there are at most 8,128 of them, at 10,000 at most. So number 8 cannot occur there. Assumes nothing.
use mathlib.Core.Path.{◌≡◌, sym, ap, ap₂, ◌∙◌}
use mathlib.Core.Logic.{◌⊎◌, inl, inr}
use mathlib.Core.Bool.{Bool, true, false, not, ◌&&◌}
use mathlib.Core.List.{List}
use mathlib.Core.Option.{none}
use Prim.Native.Nat.{ℕ, ◌*◌, ◌/◌, ◌%◌, ◌≤◌, min, max}
use native.Mathlib.Omega.{arith}
use lib.ListN.{length}
use lib.Dec.{ltb}
use borrow.Author.Tests.{ltb-true, ltb-false, ne_eqb}
use Rattle.bits.proofs.Truth.{never, which, fails, and_in, and_left, not_in}
use Rattle.graph.specs.Graph.{IsGraph}
use Rattle.graph.specs.Price.{fixed}
use Rattle.graph.proofs.Facts.{quad_induced}
use Rattle.repair.specs.Pair.{pair_of, is_pair, changeable, member}
use Rattle.repair.specs.Better.{price}
use Rattle.repair.specs.Repair.{toggled, Repair}
use Rattle.repair.specs.Packing.{those}
use Rattle.repair.specs.Depth.{numbers}
use Rattle.repair.specs.Tree.{walked}
use Rattle.repair.proofs.Sets.{all_in, those_in, those_out}
use Rattle.repair.proofs.Counts.{count_fewer}
use Rattle.repair.proofs.Numbers.{pair_low, pair_high, pair_is, pair_below}
use Rattle.repair.proofs.Toggling.{Two, hit, hit_two, hit_member, hit_in, toggled_hit, toggled_missed}
use Rattle.repair.proofs.Depths.{numbers_in}
use Rattle.repair.proofs.Listed.{numbers_ascending, those_ascending, those_counted, price_most}
use Rattle.repair.proofs.Pairs.{pairs_most}
use Rattle.repair.proofs.Instance.{Positive}
use Rattle.repair.proofs.Promises.{none_exactly}

-- "each 1 to 10,000": no pair is fixed
abbrev pub NoneFixed : ℕ → (ℕ → ℕ) → Type 0
NoneFixed n toll = (x : ℕ) → is_pair n x ≡ true → (1 ≤ toll x) × (toll x ≤ 10000)

pub none_fixed_positive : (n : ℕ) (toll : ℕ → ℕ) → NoneFixed n toll → Positive n toll
unfolding changeable
none_fixed_positive n toll h x c = (h x (and_left (is_pair n x) _ c)).0

none_fixed_changeable : (n : ℕ) (toll : ℕ → ℕ) → NoneFixed n toll → (x : ℕ) → is_pair n x ≡ true → changeable n toll x ≡ true
unfolding changeable
none_fixed_changeable n toll h x p =
    let top = (h x p).1 in
    and_in p (not_in (ne_eqb (toll x) fixed (λ e. omega arith)))

module _ (n : ℕ) (e : ℕ → ℕ → Bool) (graph : IsGraph n e) where
  joined : ℕ → Bool
  joined x = is_pair n x && e (x / n) (x % n)

  -- all edges
  every_edge : List ℕ
  every_edge = those joined (numbers (n * n))

  -- the number of two vertices tells whether they are joined
  joined_edge : (i j : ℕ) → Two n i j → joined (pair_of n i j) ≡ e i j
  unfolding joined
  joined_edge i j t =
      ap₂ ◌&&◌ (pair_is n i j t.left t.right t.apart)
      (ap₂ e (pair_low n i j t.left t.right) (pair_high n i j t.left t.right)) ∙
      turn (which (ltb i j))
    where
      turn : (ltb i j ≡ true) ⊎ (ltb i j ≡ false) → e (min i j) (max i j) ≡ e i j
      turn (inl h) =
          let less = ltb-true i j h in
          let low : min i j ≡ i = omega arith in
          let high : max i j ≡ j = omega arith in
          ap₂ e low high
      turn (inr h) =
          let less = ltb-false i j h in
          let low : min i j ≡ j = omega arith in
          let high : max i j ≡ i = omega arith in
          ap₂ e low high ∙ graph.mirrored j i

  edge_two : (i j : ℕ) → e i j ≡ true → Two n i j
  edge_two i j h =
      record {
        left = (graph.inside i j h).0;
        right = (graph.inside i j h).1;
        apart = λ q. never (ap (e i) q ∙ h) (graph.loopless i);
      }

  -- an edge is hit, and nothing else is
  edge_hit : (i j : ℕ) → e i j ≡ true → hit n every_edge i j ≡ true
  unfolding every_edge
  edge_hit i j h =
      let t = edge_two i j h in
      hit_in n every_edge i j t
      (those_in joined (pair_of n i j) (numbers (n * n))
      (numbers_in (pair_of n i j) (n * n) (pair_below n i j t.left t.right)) (joined_edge i j t ∙ h))

  hit_edge : (i j : ℕ) → hit n every_edge i j ≡ true → e i j ≡ true
  unfolding every_edge
  hit_edge i j h =
      sym (joined_edge i j (hit_two n every_edge i j h)) ∙
      (those_out joined (pair_of n i j) (numbers (n * n)) (hit_member n every_edge i j h)).1

  -- toggling every edge leaves none
  emptied : (i j : ℕ) → toggled n e every_edge i j ≡ false
  emptied i j = go (which (e i j))
    where
      go : (e i j ≡ true) ⊎ (e i j ≡ false) → toggled n e every_edge i j ≡ false
      go (inl h) = toggled_hit n e every_edge i j (edge_hit i j h) ∙ ap not h
      go (inr h) = toggled_missed n e every_edge i j (fails (λ k. never (hit_edge i j k) h)) ∙ h

  every_edge_pair : (x : ℕ) → member x every_edge ≡ true → is_pair n x ≡ true
  unfolding every_edge joined
  every_edge_pair x m = and_left (is_pair n x) _ (those_out joined x (numbers (n * n)) m).1

  every_edge_few : n ≤ 128 → length every_edge ≤ 8128
  unfolding every_edge joined
  every_edge_few h =
      omega (
        arith,
        those_counted joined (n * n),
        count_fewer joined (is_pair n) (λ x j. and_left (is_pair n x) _ j) (n * n),
        pairs_most n h,
      )

  module _ (toll : ℕ → ℕ) (loose : NoneFixed n toll) where
    every_edge_repair : Repair n e toll every_edge
    every_edge_repair =
        record {
          sorted = unfold every_edge in those_ascending joined (numbers (n * n)) (numbers_ascending (n * n));
          allowed = all_in (changeable n toll) every_edge (λ x m. none_fixed_changeable n toll loose x (every_edge_pair x m));
          cleans = λ a b c d la lb lc ld.
              fails (λ h. never (quad_induced (toggled n e every_edge) a b c d h).ab (emptied a b));
        }

    -- "81,280,000, which is 8,128 pairs at 10,000"
    every_edge_price : n ≤ 128 → price toll every_edge ≤ 81280000
    every_edge_price h =
        omega (arith, price_most toll 10000 every_edge (λ x m. (loose x (every_edge_pair x m)).1), every_edge_few h)

    pub always_repair : n ≤ 128 → (r : List ℕ) × Repair n e toll r × (price toll r ≤ 81280000)
    always_repair h = (every_edge, every_edge_repair, every_edge_price h)

    -- "Eight cannot occur here."
    pub never_none :
        n ≤ 128 → (prune : Bool) (k : ℕ) → 81280000 ≤ k → (walked n e toll prune k).kept ≡ none → ⊥
    never_none h prune k enough empty =
        let dear = (none_exactly n e toll graph (none_fixed_positive n toll loose) k prune).0 empty every_edge every_edge_repair in
        omega (arith, every_edge_price h)
