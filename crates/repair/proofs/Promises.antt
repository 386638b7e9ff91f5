-- What is promised of both engines' searches: the cheapest repair within k, or none exactly if none exists; pruning keeps
-- the same and never adds a step; the size of the tree; the step limit. Each is a promise of search trees, for document
-- 01's. Assumes nothing.
use mathlib.Core.Path.{◌≡◌, refl, subst}
use mathlib.Core.Logic.{◌⊎◌, inl, inr, ◌↔◌}
use mathlib.Core.Bool.{Bool, true, false}
use mathlib.Core.List.{List, [], ◌∷◌}
use mathlib.Core.Option.{Option, none}
use Prim.Native.Nat.{ℕ, suc, ◌*◌, ◌/◌, ◌≤◌, ◌<◌}
use native.Mathlib.Nat.{le_trans}
use native.Mathlib.Omega.{arith}
use lib.ListN.{length}
use Rattle.bits.specs.Choice.{count}
use Rattle.bits.proofs.Truth.{never, which, fails, pick_true, pick_false}
use Rattle.graph.specs.Graph.{IsGraph}
use Rattle.std.specs.Prelude.{Option as Found, None, Some}
use Rattle.graph.specs.declared.Quad.{Quad}
use Rattle.graph.specs.Quad.{quads, first}
use Rattle.walk.specs.Walk.{walk, begin, plain, geo}
use Rattle.walk.specs.Run.{stopped, whole}
use Rattle.walk.specs.Best.{IsBest, best_of, limit_of}
use Rattle.walk.proofs.Laws.{Laws, NotBetter, Safe}
use Rattle.walk.proofs.Single.{keeping, best_only, best_same}
use Rattle.walk.proofs.Promises.{
  fuel_enough,
  kept_best,
  cut_saves_plain,
  steps_geo,
  steps_one,
  run_over,
  run_whole,
  run_stopped,
}
use Rattle.repair.specs.Better.{price}
use Rattle.repair.specs.Pair.{member}
use Rattle.repair.specs.Repair.{Repair}
use Rattle.repair.specs.Packing.{pairs_of, lowest, empty}
use Rattle.repair.specs.Tree.{Node, root, ways_of, order, present, free, tree, pruned, engine, walked, searched}
use Rattle.repair.specs.Depth.{changeables, depth}
use Rattle.repair.proofs.Sets.{member_none}
use Rattle.repair.proofs.Counts.{count_most}
use Rattle.repair.proofs.Nodes.{Fit, Below, fit_root, below_root, free_changeable}
use Rattle.repair.proofs.Instance.{Positive, ordered, laws, pruned_above}
use Rattle.repair.proofs.Prices.{lowest_least}
use Rattle.repair.proofs.Depths.{changeables_in, changeables_out, lowest_positive}

-- at most six ways
six : (n : ℕ) (f : Found Quad) → length (ways_of n f) ≤ 6
unfolding pairs_of
six n (Some q) = omega arith
six n None = omega arith

module _ (n : ℕ) (e : ℕ → ℕ → Bool) (toll : ℕ → ℕ) (graph : IsGraph n e) (positive : Positive n toll) where
  abbrev lawful : Laws (tree n e toll) (price toll) (NotBetter (order toll))
  lawful = laws n e toll graph positive

  -- the limit starts above the root's price, and the fuel suffices
  start : (k : ℕ) → price toll [] ≤ k
  unfolding price
  start k = omega arith

  fuel : count (free n toll root) (n * n) < suc (n * n)
  fuel = omega (arith, count_most (free n toll root) (n * n))

  -- neither engine leaves a node that has a repair within the limit below it
  pub engine_safe : (prune : Bool) → Safe lawful (engine n e toll prune)
  unfolding plain
  engine_safe false = λ s limit a fit over b. never over refl
  engine_safe true = pruned_above n e toll

  module _ (k : ℕ) where
    -- W1: "The one returned has the lowest price; among equals, the one whose ascending list of pair numbers is smaller",
    -- within k, or none
    pub keeps_best : (prune : Bool) → IsBest (order toll) k (Repair n e toll) (walked n e toll prune k).kept
    unfolding walked
    keeps_best prune =
        best_same (ordered toll) k (Below n e toll root) (Repair n e toll) (walked n e toll prune k).kept
        (λ a b. b.repair) (below_root n e toll)
        (kept_best (ordered toll) lawful k root (fit_root n e toll) (start k) (engine n e toll prune) (engine_safe prune) (suc (n * n)) fuel)

    -- W1: nothing else is the best
    pub best_only_kept :
        (prune : Bool) (x : Option (List ℕ)) → IsBest (order toll) k (Repair n e toll) x → (walked n e toll prune k).kept ≡ x
    best_only_kept prune x best = best_only (ordered toll) k (Repair n e toll) _ x (keeps_best prune) best

    -- W1: "no repair within k", exactly if nothing is kept
    pub none_exactly :
        (prune : Bool) →
        ((walked n e toll prune k).kept ≡ none) ↔ ((r : List ℕ) → Repair n e toll r → k < price toll r)
    none_exactly prune =
        (λ h. subst (IsBest (order toll) k (Repair n e toll)) h (keeps_best prune), best_only_kept prune none)

    -- W2: both engines keep the same, and the pruned one counts no more steps
    pub pruned_keeps : (walked n e toll true k).kept ≡ (walked n e toll false k).kept
    pruned_keeps = best_only_kept true (walked n e toll false k).kept (keeps_best false)

    pub pruned_saves : (walked n e toll true k).steps ≤ (walked n e toll false k).steps
    unfolding walked
    pruned_saves =
        cut_saves_plain lawful (keeping (ordered toll) k) root (fit_root n e toll) (unfold limit_of in start k)
        (pruned n e toll) (engine_safe true) (suc (n * n)) fuel

    few : (s : Node) → Fit n e toll s → length (ways_of n (first (quads n (present n e s)))) ≤ 6
    few s fit = six n (first (quads n (present n e s)))

    -- W3: where no pair may be changed the root is all
    pub steps_alone : (prune : Bool) → empty (changeables n toll) ≡ true → (walked n e toll prune k).steps ≡ 1
    unfolding walked
    steps_alone prune bare =
        steps_one lawful (keeping (ordered toll) k) root (fit_root n e toll) (unfold limit_of in start k) 6 few
        (engine n e toll prune) (λ s w fit. fails (λ h. shut (changeables n toll) w bare (changeables_in n toll w (free_changeable n toll s w h))))
        (suc (n * n)) (omega arith)
      where
        shut : (xs : List ℕ) (x : ℕ) → empty xs ≡ true → member x xs ≡ true → ⊥
        shut [] x h m = member_none x m
        shut (y ∷ ys) x h m = never h (unfold empty in refl)

    -- W3: "1 + 6 + .. + 6^d", d = k / the lowest price of a pair that may be changed, 0 where none may be
    pub steps_bounded : (prune : Bool) → (walked n e toll prune k).steps ≤ geo 6 (depth n toll k)
    steps_bounded prune = go (which (empty (changeables n toll)))
      where
        low : ℕ
        low = lowest toll (changeables n toll)

        below : empty (changeables n toll) ≡ false → (walked n e toll prune k).steps ≤ geo 6 (k / low)
        below h =
            unfold walked limit_of in
            steps_geo lawful (keeping (ordered toll) k) root (fit_root n e toll) (unfold limit_of in start k) 6 few
            (engine n e toll prune) low
            (lowest_positive toll (changeables n toll) h (λ x m. positive x (changeables_out n toll x m)))
            (λ s w fit f. lowest_least toll w (changeables n toll) (changeables_in n toll w (free_changeable n toll s w f)))
            (suc (n * n))

        go :
            (empty (changeables n toll) ≡ true) ⊎ (empty (changeables n toll) ≡ false) →
            (walked n e toll prune k).steps ≤ geo 6 (depth n toll k)
        go (inl h) =
            let flat : depth n toll k ≡ 0 = unfold depth in pick_true _ _ h in
            let one : geo 6 0 ≡ 1 = unfold geo in refl in
            rw flat (omega (arith, steps_alone prune h))
        go (inr h) =
            let deep : depth n toll k ≡ k / low = unfold depth in pick_false _ _ h in
            rw deep (below h)

    module _ (prune : Bool) (most : ℕ) where
      -- W4: "the tree has more than L nodes; steps = L"
      pub search_over :
          most < (walked n e toll prune k).steps → searched n e toll prune k most ≡ stopped most
      unfolding walked searched
      search_over =
          run_over (tree n e toll) (best_of (order toll) k) (engine n e toll prune) most (suc (n * n)) root

      -- W4: else the whole tree's steps and what is kept of it
      pub search_whole :
          (walked n e toll prune k).steps ≤ most → searched n e toll prune k most ≡ whole (walked n e toll prune k)
      unfolding walked searched
      search_whole =
          run_whole (tree n e toll) (best_of (order toll) k) (engine n e toll prune) most (suc (n * n)) root

      -- W4: stopped in no other case, and with no other number
      pub search_stopped :
          (steps : ℕ) → searched n e toll prune k most ≡ stopped steps →
          (most < (walked n e toll prune k).steps) × (steps ≡ most)
      unfolding walked searched
      search_stopped =
          run_stopped (tree n e toll) (best_of (order toll) k) (engine n e toll prune) most (suc (n * n)) root

      -- W4: a large enough limit is never reached
      pub search_large :
          geo 6 (depth n toll k) ≤ most → searched n e toll prune k most ≡ whole (walked n e toll prune k)
      search_large large = search_whole (le_trans (steps_bounded prune) large)

    -- any fuel above the number of pairs that may be changed walks the same tree
    pub walked_fuel :
        (prune : Bool) (f : ℕ) → count (free n toll root) (n * n) < f →
        walk (tree n e toll) (best_of (order toll) k) (engine n e toll prune) f root (begin (best_of (order toll) k)) ≡
        walked n e toll prune k
    unfolding walked
    walked_fuel prune f enough =
        fuel_enough lawful (keeping (ordered toll) k) root (fit_root n e toll) (unfold limit_of in start k)
        (engine n e toll prune) f (suc (n * n)) (begin (best_of (order toll) k)) enough fuel
