-- The run under a step limit, case by case at a node, and way by way. Assumes nothing.
use mathlib.Core.Path.{◌≡◌, refl, ap, ◌∙◌}
use mathlib.Core.Bool.{Bool, true, false}
use mathlib.Core.List.{List, [], ◌∷◌}
use Prim.Native.Nat.{ℕ, suc}
use lib.Dec.{leb}
use Rattle.walk.specs.Problem.{Problem, Keeper, Tally}
use Rattle.walk.specs.Walk.{entered, found, opens}
use Rattle.walk.specs.Run.{Outcome, stopped, whole, Bounded, next, run_if, run_tries, run_branch, run_visit, run_enter, run_node, run}

module _ (p : Problem) (q : Keeper p.Answer) (cut : p.Node → ℕ → Bool) (most f : ℕ) (s : p.Node) (t : Tally q.Kept) where
  -- one node too many
  pub run_stop : leb most t.steps ≡ true → run p q cut most (suc f) s t ≡ stopped t.steps
  unfolding run run_node run_enter
  run_stop h = ap (λ b. run_enter p q cut most b (run p q cut most f) s t) h

  module _ (on : leb most t.steps ≡ false) where
    goes : run p q cut most (suc f) s t ≡ run_visit p q cut (p.done s) (run p q cut most f) s (entered t)
    unfolding run run_node run_enter
    goes = ap (λ b. run_enter p q cut most b (run p q cut most f) s t) on

    -- no quad
    pub run_found : p.done s ≡ true → run p q cut most (suc f) s t ≡ whole (found p q s (entered t))
    unfolding run_visit
    run_found h = goes ∙ ap (λ b. run_visit p q cut b (run p q cut most f) s (entered t)) h

    module _ (quad : p.done s ≡ false) where
      branches :
          run p q cut most (suc f) s t ≡
          run_branch p q (cut s (q.limit t.kept)) (run p q cut most f) s (entered t)
      unfolding run_visit entered
      branches = goes ∙ ap (λ b. run_visit p q cut b (run p q cut most f) s (entered t)) quad

      -- the node is left
      pub run_left : cut s (q.limit t.kept) ≡ true → run p q cut most (suc f) s t ≡ whole (entered t)
      unfolding run_branch
      run_left h = branches ∙ ap (λ b. run_branch p q b (run p q cut most f) s (entered t)) h

      -- its ways are tried
      pub run_tries_lem :
          cut s (q.limit t.kept) ≡ false →
          run p q cut most (suc f) s t ≡ run_tries p q (run p q cut most f) s (p.ways s) (entered t)
      unfolding run_branch
      run_tries_lem h = branches ∙ ap (λ b. run_branch p q b (run p q cut most f) s (entered t)) h

module _ (p : Problem) (q : Keeper p.Answer) (rec : Bounded p q) (s : p.Node) where
  -- one way, and then the others
  pub tries_more :
      (w : p.Way) (ws : List p.Way) (o : Outcome q.Kept) →
      next (run_tries p q rec s (w ∷ ws)) o ≡
      next (run_tries p q rec (p.mark s w) ws) (next (λ u. run_if (opens p q s w u.kept) (rec (p.add s w)) u) o)
  unfolding next run_tries
  tries_more w ws (stopped n) = refl
  tries_more w ws (whole t) = refl

  -- no way is left
  pub tries_none : (o : Outcome q.Kept) → next (run_tries p q rec s []) o ≡ o
  unfolding next run_tries
  tries_none (stopped n) = refl
  tries_none (whole t) = refl
