-- The ways of a node one after the other: after each, what is left of the tree's run goes on from the outcome so far, at
-- the node with the pairs so far marked. Assumes nothing.
use mathlib.Core.Path.{◌≡◌, refl, sym, ap, ◌∙◌, subst⁻¹}
use mathlib.Core.Bool.{Bool}
use mathlib.Core.List.{List, map}
use mathlib.Core.Option.{Option}
use Prim.Native.Nat.{ℕ, suc, ◌+◌, ◌≤◌, ◌<◌}
use native.Mathlib.Numerals.{add-one}
use native.Mathlib.Omega.{arith}
use lib.ListN.{length, get_or, drop, set, drop_of_length-le}
use lib.Seq.{drop-cons}
use Rattle.graph.specs.Price.{fixed}
use Rattle.walk.specs.Problem as problem
use Rattle.walk.specs.Best.{best_of}
use Rattle.walk.specs.Run.{Outcome, whole, next}
use Rattle.repair.specs.Tree.{Node, order, mark, tree}
use Rattle.repair.proofs.Instance.{count_mark}
use Rattle.memory.specs.declared.Tally.{Tally}
use Rattle.memory.specs.Table.{Place, number_at}
use Rattle.search.specs.Memory.{At, Same, Follows}
use Rattle.search.specs.Steps.{runs, left, tried, tries, Back, Tried}
use Rattle.search.proofs.Runs.{tries_more, tries_none}
use Rattle.search.proofs.States.{at_mark}

-- the memory is as it was, so it stands for the same node
pub at_back :
    {n : ℕ} {e : ℕ → ℕ → Bool} {toll : ℕ → ℕ} {s : Node} {words cost path : List ℕ} {spent : ℕ}
    (words' cost' path' : List ℕ) → Back words cost path words' cost' path' →
    At n e toll s words cost path spent → At n e toll s words' cost' path' spent
at_back words' cost' path' back at =
    rw (back.words_back, back.cost_back)
    (record {
      edges = at.edges;
      opens = at.opens;
      tolls = at.tolls;
      trail = back.path_back ∙ at.trail;
      price = at.price;
      held = at.held;
    })

-- how far the run has come when w ways are tried
pub record Reached
    (n : ℕ) (e : ℕ → ℕ → Bool) (toll : ℕ → ℕ) (prune : Bool) (k most f : ℕ) (s : Node) (o : problem.Tally (Option (List ℕ)))
    (words cost path kept : List ℕ) (spent : ℕ) (places : List ℕ) (t : Tally) (w : ℕ)
    : Type 0 where
  pub node : Node
  pub out : Outcome (Option (List ℕ))
  pub at : At n e toll node words cost path spent
  pub fuel : left n toll node ≤ f
  pub follows : Follows toll k most out t kept
  pub rest :
      tries n e toll prune k most f s (map (number_at n) places) o ≡
      next (tries n e toll prune k most f node (map (number_at n) (drop w places))) out

module _
    (n : ℕ) (e : ℕ → ℕ → Bool) (toll : ℕ → ℕ) (prune : Bool) (k most f : ℕ) (s : Node) (o : problem.Tally (Option (List ℕ)))
    (words cost path kept : List ℕ) (spent : ℕ) (places : List ℕ) (t : Tally)
  where
    pub reached_none :
        At n e toll s words cost path spent → left n toll s ≤ f → Same toll k most o t kept →
        Reached n e toll prune k most f s o words cost path kept spent places t 0
    unfolding next
    reached_none at fuel same =
        record { node = s; out = whole o; at = at; fuel = fuel; follows = same; rest = refl }

    -- one way more
    pub reached_more :
        (w : ℕ) (words' cost' path' kept' : List ℕ) (r : Tally) → n ≤ 128 → Place n (get_or places w 0) →
        get_or places w 0 < length cost → w < length places →
        Back words (set cost (get_or places w 0) fixed) path words' cost' path' →
        Tried n prune most words cost path kept spent (get_or places w 0) t r kept' →
        Reached n e toll prune k most f s o words cost path kept spent places t w →
        Reached n e toll prune k most f s o words' cost' path' kept' spent places r (w + 1)
    reached_more w words' cost' path' kept' r few place fits inside back did so =
        record {
          node = mark so.node x;
          out = tried n e toll prune k most f so.node x so.out;
          at = at_back words' cost' path' back (at_mark so.at (get_or places w 0) few place fits);
          fuel = omega (arith, so.fuel, count_mark n e toll so.node x);
          follows = did e toll k f so.node so.out so.at so.fuel so.follows;
          rest =
              so.rest ∙
              ap (λ l. next (tries n e toll prune k most f so.node (map (number_at n) l)) so.out) (drop-cons places w 0 inside) ∙
              tries_more (tree n e toll) (best_of (order toll) k) (runs n e toll prune k most f) so.node x
              (map (number_at n) (drop (suc w) places)) so.out ∙
              ap (λ v. next (tries n e toll prune k most f (mark so.node x) (map (number_at n) (drop v places))) (tried n e toll prune k most f so.node x so.out))
              (sym (add-one w));
        }
      where
        x : ℕ
        x = number_at n (get_or places w 0)

    -- all ways are tried
    pub reached_all :
        (w : ℕ) → length places ≤ w → Reached n e toll prune k most f s o words cost path kept spent places t w →
        Follows toll k most (tries n e toll prune k most f s (map (number_at n) places) o) t kept
    reached_all w all so =
        subst⁻¹ (λ z. Follows toll k most z t kept)
        (so.rest ∙
        ap (λ l. next (tries n e toll prune k most f so.node (map (number_at n) l)) so.out) (drop_of_length-le places {i = w} all) ∙
        tries_none (tree n e toll) (best_of (order toll) k) (runs n e toll prune k most f) so.node so.out)
        so.follows
