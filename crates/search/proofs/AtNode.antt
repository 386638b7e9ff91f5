-- What a node does is what the tree's run does there: stopped, a repair found, the node left, or its ways tried.
-- Assumes nothing.
use mathlib.Core.Path.{◌≡◌, sym, ap, ◌∙◌, subst, subst⁻¹}
use mathlib.Core.Bool.{Bool, true, false, ◌&&◌}
use mathlib.Core.List.{List, map}
use mathlib.Core.Option.{Option}
use Prim.Native.Nat.{ℕ, zero, suc, ◌+◌, ◌≤◌, ◌<◌}
use native.Mathlib.Omega.{arith}
use borrow.Author.Tests.{le-leb, lt-leb}
use lib.Dec.{leb, ltb}
use Rattle.graph.specs.declared.Quad.{Quad}
use Rattle.std.specs.Prelude.{Option as Found, None, Some}
use Rattle.graph.specs.Graph.{word_edge}
use Rattle.graph.specs.Quad.{quads, first}
use Rattle.graph.proofs.Quads.{listed_named, first_listed}
use Rattle.walk.specs.Problem as problem
use Rattle.walk.specs.Walk.{entered, found}
use Rattle.walk.specs.Best.{best_of, keep_better, limit_of}
use Rattle.walk.specs.Run.{Outcome, stopped, whole}
use Rattle.repair.specs.Better.{price}
use Rattle.repair.specs.Packing.{pairs_of, packing}
use Rattle.repair.specs.Tree.{Node, is_clear, ways_of, order, present, tree, engine}
use Rattle.memory.specs.declared.Tally.{Tally}
use Rattle.bound.specs.Table.{toll_at, free_at}
use Rattle.memory.specs.Table.{number_at}
use Rattle.search.specs.Memory as memory
use Rattle.memory.specs.Tally.{Entered, Kept}
use Rattle.search.specs.Memory.{Same, Follows}
use Rattle.search.specs.Steps.{runs, left, tries}
use Rattle.search.proofs.Runs.{run_stop, run_found, run_left, run_tries_lem}
use Rattle.search.proofs.Placing.{places_numbers}
use Rattle.search.proofs.Cuts.{engine_read}
use Rattle.search.proofs.Keeping.{Stored, stored}

module _
    {n : ℕ} {e : ℕ → ℕ → Bool} {toll : ℕ → ℕ} {k most : ℕ} {s : Node} {o : problem.Tally (Option (List ℕ))}
    {words cost path kept : List ℕ} {spent : ℕ} {t here : Tally}
    (prune : Bool)
    (at : memory.At n e toll s words cost path spent)
    (same : Same toll k most o t kept)
    (step : Entered t here)
  where
    -- the outcome is told by an equation
    told :
        (f : ℕ) (r : Tally) (after : List ℕ) (x : Outcome (Option (List ℕ))) →
        runs n e toll prune k most f s o ≡ x → Follows toll k most x r after →
        Follows toll k most (runs n e toll prune k most f s o) r after
    told f r after x q h = subst⁻¹ (λ z. Follows toll k most z r after) q h

    -- the tally of the node entered
    limit_here : here.limit ≡ limit_of (order toll) k o.kept
    limit_here = step.limited ∙ same.limit

    held_here : memory.Holds here.kept kept o.kept
    held_here = subst⁻¹ (λ c. memory.Holds c kept o.kept) step.held same.kept

    same_entered : here.steps ≤ most → Same toll k most (entered o) here kept
    unfolding entered
    same_entered l =
        record {
          steps = step.counted ∙ ap suc same.steps;
          within = l;
          limit = limit_here;
          kept = held_here;
        }

    pub node_stopped : (f : ℕ) → left n toll s < f → most < here.steps → Follows toll k most (runs n e toll prune k most f s o) here kept
    node_stopped zero fuel over = absurd (omega arith)
    node_stopped (suc f) fuel over =
        told (suc f) here kept (stopped o.steps)
        (run_stop (tree n e toll) (best_of (order toll) k) (engine n e toll prune) most f s o
        (le-leb most o.steps (omega (arith, same.steps, step.counted)))) over

    module _ (l : here.steps ≤ most) where
      on : leb most o.steps ≡ false
      on = lt-leb most o.steps (omega (arith, same.steps, step.counted))

      done : (x : Found Quad) → first (quads n (word_edge words)) ≡ x → is_clear (first (quads n (present n e s))) ≡ is_clear x
      done x h = ap (λ g. is_clear (first (quads n g))) (sym at.edges) ∙ ap is_clear h

      pub node_found :
          (f : ℕ) (r : Tally) (after : List ℕ) → left n toll s < f →
          first (quads n (word_edge words)) ≡ None → Kept path kept after spent here r →
          Follows toll k most (runs n e toll prune k most f s o) r after
      node_found zero r after fuel clear keep = absurd (omega arith)
      node_found (suc f) r after fuel clear keep =
          told (suc f) r after (whole (found (tree n e toll) (best_of (order toll) k) s (entered o)))
          (run_found (tree n e toll) (best_of (order toll) k) (engine n e toll prune) most f s o on (done None clear))
          (unfold found entered in
          record {
            steps = keep.same_steps ∙ step.counted ∙ ap suc same.steps;
            within = omega (arith, keep.same_steps);
            limit = kept_now.limit;
            kept = kept_now.kept;
          })
        where
          spent_trail : spent ≡ price toll path
          spent_trail = at.price ∙ ap (price toll) (sym at.trail)

          kept_now : Stored toll k (keep_better (order toll) o.kept s.path) r after
          kept_now =
              subst (λ z. Stored toll k (keep_better (order toll) o.kept z) r after) at.trail
              (stored toll k path kept spent here spent_trail after r keep
              o.kept limit_here held_here)

      module _ (q : Quad) (quad : first (quads n (word_edge words)) ≡ Some q) where
        busy : is_clear (first (quads n (present n e s))) ≡ false
        busy = done (Some q) quad

        -- the engine's test, read from the table
        cuts : Bool
        cuts = engine n e toll prune s (limit_of (order toll) k o.kept)

        cuts_read :
            cuts ≡ (prune && ltb here.limit (spent + packing n (free_at n cost) (toll_at n cost) (quads n (word_edge words))))
        unfolding cuts
        cuts_read = ap (engine n e toll prune s) (sym limit_here) ∙ engine_read at prune here.limit

        pub node_left :
            (f : ℕ) → left n toll s < f →
            (prune && ltb here.limit (spent + packing n (free_at n cost) (toll_at n cost) (quads n (word_edge words)))) ≡ true →
            Follows toll k most (runs n e toll prune k most f s o) here kept
        unfolding cuts
        node_left zero fuel h = absurd (omega arith)
        node_left (suc f) fuel h =
            told (suc f) here kept (whole (entered o))
            (run_left (tree n e toll) (best_of (order toll) k) (engine n e toll prune) most f s o on busy (cuts_read ∙ h))
            (same_entered l)

        -- the ways of the node, by the places of the quad's pairs
        ways_placed : n ≤ 128 → ways_of n (first (quads n (present n e s))) ≡ map (number_at n) (pairs_of 128 q)
        ways_placed few =
            let here_too : first (quads n (present n e s)) ≡ Some q = ap (λ g. first (quads n g)) (sym at.edges) ∙ quad in
            ap (ways_of n) here_too ∙
            sym (places_numbers n (present n e s) few q (listed_named n (present n e s) q (first_listed n (present n e s) q here_too)))

        pub node_branched :
            (f : ℕ) (r : Tally) (after : List ℕ) → n ≤ 128 → left n toll s < f →
            (prune && ltb here.limit (spent + packing n (free_at n cost) (toll_at n cost) (quads n (word_edge words)))) ≡ false →
            ((f' : ℕ) (o' : problem.Tally (Option (List ℕ))) → left n toll s ≤ f' → Same toll k most o' here kept →
            Follows toll k most (tries n e toll prune k most f' s (map (number_at n) (pairs_of 128 q)) o') r after) →
            Follows toll k most (runs n e toll prune k most f s o) r after
        unfolding cuts
        node_branched zero r after few fuel h tried = absurd (omega arith)
        node_branched (suc f) r after few fuel h tried =
            told (suc f) r after (tries n e toll prune k most f s (map (number_at n) (pairs_of 128 q)) (entered o))
            (run_tries_lem (tree n e toll) (best_of (order toll) k) (engine n e toll prune) most f s o on busy (cuts_read ∙ h) ∙
            ap (λ ws. tries n e toll prune k most f s ws (entered o)) (ways_placed few))
            (tried f (entered o) (omega arith) (same_entered l))
