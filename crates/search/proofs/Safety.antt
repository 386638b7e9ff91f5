-- What every node's memory is stays so: a pair marked, a pair entered, and other lists of the same lengths. Assumes nothing.
use mathlib.Core.Path.{◌≡◌, ap, ◌∙◌}
use mathlib.Core.Logic.{◌⊎◌, inl, inr, ◌≢◌}
use mathlib.Core.Bool.{true}
use mathlib.Core.List.{List}
use Prim.Native.Nat.{ℕ, ◌+◌, ◌*◌, ◌-◌, ◌/◌, ◌%◌, ◌≤◌, ◌<◌}
use native.Mathlib.Nat.{mul-le-mul}
use native.Mathlib.Omega.{arith}
use borrow.Author.Tests.{ltb-true, lt-ltb}
use lib.ListN.{length, get_or, set, length-set}
use lib.Seq.{get_or-set_same, get_or-set_other}
use Rattle.bits.proofs.Truth.{equal}
use Rattle.graph.specs.Price.{fixed}
use Rattle.graph.specs.Graph.{word_edge}
use Rattle.graph.specs.Rows.{Toggled}
use Rattle.graph.proofs.Flipping.{flipped_graph}
use Rattle.repair.proofs.Counts.{count_fewer, count_lost}
use Rattle.bound.specs.Table.{toll_at, free_at}
use Rattle.memory.specs.Table.{Place, number_at}
use Rattle.search.specs.Memory.{open_pairs}
use Rattle.memory.specs.Tally.{budget, Within}
use Rattle.std.specs.Prelude.{Option, None, Some}
use Rattle.search.specs.Memory.{pairs, Safe}
use Rattle.search.proofs.Placing.{index, number_below}
use Rattle.search.proofs.States.{toll_here, free_here}

module _ (n : ℕ) (cost : List ℕ) (p : ℕ) (table : length cost ≡ 16384) (fits : p < 16384) where
  -- what costs less than 65,535 once p is marked did before
  marked_before : (i : ℕ) → get_or (set cost p fixed) i 0 < fixed → get_or cost i 0 < fixed
  marked_before i h = go (equal i p)
    where
      go : (i ≡ p) ⊎ (i ≢ p) → get_or cost i 0 < fixed
      go (inl e) = absurd (omega (arith, ap (λ j. get_or (set cost p fixed) j 0) e, get_or-set_same cost p fixed 0 (omega arith)))
      go (inr e) = omega (arith, get_or-set_other cost p i fixed 0 e)

  -- fewer pairs are free once one is marked
  fewer : (x : ℕ) → free_at n (set cost p fixed) x ≡ true → free_at n cost x ≡ true
  unfolding free_at toll_at
  fewer x h = lt-ltb (get_or cost (index n x) 0) fixed (marked_before (index n x) (ltb-true (get_or (set cost p fixed) (index n x) 0) fixed h))

  pub open_less : open_pairs n (set cost p fixed) ≤ open_pairs n cost
  unfolding open_pairs
  open_less = count_fewer (free_at n (set cost p fixed)) (free_at n cost) fewer (n * n)

  pub open_falls : n ≤ 128 → Place n p → get_or cost p 0 < fixed → open_pairs n (set cost p fixed) < open_pairs n cost
  unfolding open_pairs
  open_falls few at h =
      count_lost (free_at n (set cost p fixed)) (free_at n cost) fewer (number_at n p) (n * n) (number_below n p few at)
      (free_here n cost p few at (omega arith))
      (unfold free_at in lt-ltb (toll_at n cost (number_at n p)) fixed (omega (arith, toll_here n cost p few at (omega arith))))

-- n vertices have at most 8,128 pairs
pub pairs_small : (n : ℕ) → n ≤ 128 → pairs n ≤ 8128
unfolding pairs
pairs_small n few = omega (arith, mul-le-mul {n₁ = n} {m₁ = n - 1} {n₂ = 128} {m₂ = 127} few (omega arith))

-- what is kept is within a greater number too, and so is what equals it
pub within_more : (o : Option ℕ) {a b : ℕ} → Within o a → a ≤ b → Within o b
within_more None h l = tt
within_more (Some pairs) h l = omega arith

pub within_as : (a : ℕ) {o p : Option ℕ} → o ≡ p → Within p a → Within o a
within_as a e h = rw e h

module _ {n : ℕ} {words cost path kept : List ℕ} {spent : ℕ} (safe : Safe n words cost path kept spent) where
  -- other lists of the same lengths
  pub safe_lists :
      (kept' : List ℕ) → length kept' ≡ length kept → Safe n words cost path kept' spent
  safe_lists kept' lk =
      record {
        few = safe.few;
        shape = safe.shape;
        graph = safe.graph;
        table = safe.table;
        placed = safe.placed;
        wide = lk ∙ safe.wide;
        room = safe.room;
        paid = safe.paid;
      }

  pub safe_mark : (p : ℕ) → p < 16384 → Safe n words (set cost p fixed) path kept spent
  safe_mark p l =
      record {
        few = safe.few;
        shape = safe.shape;
        graph = safe.graph;
        table = length-set cost p fixed ∙ safe.table;
        placed = λ i fits costs. safe.placed i fits (marked_before n cost p safe.table l i costs);
        wide = safe.wide;
        room = omega (arith, safe.room, open_less n cost p safe.table l);
        paid = safe.paid;
      }

  -- where a pair is free there is room for it
  pub safe_room : (p : ℕ) → p < 16384 → get_or cost p 0 < fixed → length path < 8128
  safe_room p l costs =
      omega (arith, safe.room, open_falls n cost p safe.table l safe.few (safe.placed p l costs) costs, pairs_small n safe.few)

  pub safe_enter :
      (p : ℕ) (words' path' : List ℕ) → p < 16384 → Place n p → get_or cost p 0 < fixed → spent + get_or cost p 0 ≤ budget →
      Toggled (p / 128) (p % 128) words words' → length path' ≡ length path + 1 →
      Safe n words' (set cost p fixed) path' kept (spent + get_or cost p 0)
  safe_enter p words' path' l at costs paid toggled lp =
      record {
        few = safe.few;
        shape = toggled.shape;
        graph = rw toggled.edges (flipped_graph (p / 128) (p % 128) (word_edge words) n safe.graph (omega (arith, at.apart, at.inside)) at.inside (omega (arith, at.apart)));
        table = length-set cost p fixed ∙ safe.table;
        placed = λ i fits h. safe.placed i fits (marked_before n cost p safe.table l i h);
        wide = safe.wide;
        room = omega (arith, safe.room, lp, open_falls n cost p safe.table l safe.few at costs);
        paid = paid;
      }
