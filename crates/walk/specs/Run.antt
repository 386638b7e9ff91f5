-- The same walk under a step limit: it stops as soon as it would enter one node too many. Assumes nothing.
use Rattle.std.specs.Prelude.{ℕ, zero, suc, Bool, true, false, List, [], ◌∷◌, leb}
use Rattle.walk.specs.Problem.{Problem, Keeper, Tally}
use Rattle.walk.specs.Walk.{entered, found, opens}

-- stopped, with the steps counted, or the whole tree's tally
pub data Outcome (Kept : Type 0) : Type 0 where
  stopped : ℕ → Outcome Kept
  whole : Tally Kept → Outcome Kept

-- once stopped, nothing more is done
unfoldable pub next : {Kept : Type 0} → (Tally Kept → Outcome Kept) → Outcome Kept → Outcome Kept
next go (stopped n) = stopped n
next go (whole t) = go t

-- go on where the test passes
unfoldable pub run_if : {Kept : Type 0} → Bool → (Tally Kept → Outcome Kept) → Tally Kept → Outcome Kept
run_if true go t = go t
run_if false go t = whole t

module _ (p : Problem) (q : Keeper p.Answer) where
  -- a search below a node that may be stopped
  abbrev pub Bounded : Type 0
  Bounded = p.Node → Tally q.Kept → Outcome q.Kept

  -- the ways in order, as in `tries`
  unfoldable pub run_tries : Bounded → p.Node → List p.Way → Tally q.Kept → Outcome q.Kept
  run_tries rec s [] t = whole t
  run_tries rec s (w ∷ ws) t =
      next (run_tries rec (p.mark s w) ws) (run_if (opens p q s w t.kept) (rec (p.add s w)) t)

  -- a node with a quad, as in `branch`
  unfoldable pub run_branch : Bool → Bounded → Bounded
  run_branch true rec s t = whole t
  run_branch false rec s t = run_tries rec s (p.ways s) t

  module _ (cut : p.Node → ℕ → Bool) where
    -- "At a node", as in `visit`
    unfoldable pub run_visit : Bool → Bounded → Bounded
    run_visit true rec s t = whole (found p q s t)
    run_visit false rec s t = run_branch (cut s (q.limit t.kept)) rec s t

    module _ (most : ℕ) where
      -- "the tree has more than L nodes; steps = L": this node would be one more
      unfoldable pub run_enter : Bool → Bounded → Bounded
      run_enter true rec s t = stopped t.steps
      run_enter false rec s t = run_visit (p.done s) rec s (entered t)

      -- "The step limit L is any 32-bit number, 0 included."
      unfoldable pub run_node : Bounded → Bounded
      run_node rec s t = run_enter (leb most t.steps) rec s t

      -- the tree under the limit, as in `walk`
      unfoldable pub run : ℕ → Bounded
      run zero s t = whole t
      run (suc f) s t = run_node (run f) s t
