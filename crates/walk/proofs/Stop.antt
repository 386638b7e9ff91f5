-- The run under a step limit is the walk, clipped: stopped exactly where the walk counts more, with the limit's number
-- of steps. Because steps never fall, what is stopped once is past the limit at the end too. Assumes nothing.
use Prim.Native.Nat.{ℕ, zero, suc, ◌≤◌, ◌<◌}
use mathlib.Core.Path.{◌≡◌, refl, sym, ap, ◌∙◌}
use mathlib.Core.Bool.{Bool, true, false}
use mathlib.Core.List.{List, [], ◌∷◌}
use native.Mathlib.Omega.{arith}
use lib.Dec.{leb, ltb}
use borrow.Author.Tests.{ltb-true, ltb-false, lt-ltb, le-ltb, leb-true, leb-false}
use Rattle.bits.specs.Choice.{pick}
use Rattle.bits.proofs.Truth.{pick_true, pick_false}
use Rattle.walk.specs.Problem.{Problem, Keeper, Tally}
use Rattle.walk.specs.Walk.{Search, entered, only_if, found, opens, tries, branch, visit, node, walk}
use Rattle.walk.specs.Run.{Outcome, stopped, whole, Bounded, next, run_if, run_tries, run_branch, run_visit, run_enter, run_node, run}
use Rattle.walk.proofs.Steady.{Growing, tries_grow, node_grow, walk_grow}

-- a tally above the limit is a stop
unfoldable pub clip : {Kept : Type 0} → ℕ → Tally Kept → Outcome Kept
clip most t = pick (ltb most t.steps) (stopped most) (whole t)

pub clip_over : {Kept : Type 0} (most : ℕ) (t : Tally Kept) → most < t.steps → clip most t ≡ stopped most
unfolding clip
clip_over most t h = pick_true (stopped most) (whole t) (lt-ltb most t.steps h)

pub clip_within : {Kept : Type 0} (most : ℕ) (t : Tally Kept) → t.steps ≤ most → clip most t ≡ whole t
unfolding clip
clip_within most t h = pick_false (stopped most) (whole t) (le-ltb most t.steps h)

-- going on after a clipped tally clips what going on gives, if steps do not fall
next_clips :
    {Kept : Type 0} (most : ℕ) (go : Tally Kept → Outcome Kept) (end : Tally Kept → Tally Kept) (t : Tally Kept) →
    t.steps ≤ (end t).steps → (t.steps ≤ most → go t ≡ clip most (end t)) → next go (clip most t) ≡ clip most (end t)
unfolding next
next_clips most go end t grow rest = at (ltb most t.steps) refl
  where
    at : (b : Bool) → ltb most t.steps ≡ b → next go (clip most t) ≡ clip most (end t)
    at true e =
        let over = ltb-true most t.steps e in
        ap (next go) (clip_over most t over) ∙ sym (clip_over most (end t) (omega arith))
    at false e =
        let within = ltb-false most t.steps e in
        ap (next go) (clip_within most t within) ∙ rest within

module _ (p : Problem) (q : Keeper p.Answer) (cut : p.Node → ℕ → Bool) (most : ℕ) where
  -- a bounded search clips a search
  abbrev pub Clips : Search p q → Bounded p q → Type 0
  Clips rec bounded = (s : p.Node) (t : Tally q.Kept) → t.steps ≤ most → bounded s t ≡ clip most (rec s t)

  module _ (rec : Search p q) (bounded : Bounded p q) (grow : Growing p q rec) (clips : Clips rec bounded) where
    try_clips :
        (b : Bool) (s : p.Node) (t : Tally q.Kept) → t.steps ≤ most →
        run_if b (bounded s) t ≡ clip most (only_if b (rec s) t)
    unfolding run_if only_if
    try_clips true s t h = clips s t h
    try_clips false s t h = sym (clip_within most t h)

    tries_clips :
        (ws : List p.Way) (s : p.Node) (t : Tally q.Kept) → t.steps ≤ most →
        run_tries p q bounded s ws t ≡ clip most (tries p q rec s ws t)
    unfolding run_tries tries
    tries_clips [] s t h = sym (clip_within most t h)
    tries_clips (w ∷ ws) s t h =
        let one = only_if (opens p q s w t.kept) (rec (p.add s w)) t in
        ap (next (run_tries p q bounded (p.mark s w) ws)) (try_clips (opens p q s w t.kept) (p.add s w) t h) ∙
        next_clips most (run_tries p q bounded (p.mark s w) ws) (tries p q rec (p.mark s w) ws) one
        (tries_grow p q rec grow ws (p.mark s w) one)
        (tries_clips ws (p.mark s w) one)

    node_clips : Clips (node p q cut rec) (run_node p q cut most bounded)
    unfolding node visit branch found run_node run_enter run_visit run_branch entered
    node_clips s t h = enter (leb most t.steps) refl
      where
        leave :
            (b : Bool) → t.steps < most →
            run_branch p q b bounded s (entered t) ≡ clip most (branch p q b rec s (entered t))
        leave true less = sym (clip_within most (entered t) less)
        leave false less = tries_clips (p.ways s) s (entered t) less

        at :
            (b : Bool) → t.steps < most →
            run_visit p q cut b bounded s (entered t) ≡ clip most (visit p q cut b rec s (entered t))
        at true less = sym (clip_within most (found p q s (entered t)) less)
        at false less = leave (cut s (q.limit t.kept)) less

        enter : (b : Bool) → leb most t.steps ≡ b → run_enter p q cut most b bounded s t ≡ clip most (node p q cut rec s t)
        enter true e =
            let reached : t.steps ≡ most = omega (arith, leb-true) in
            let more = node_grow p q rec grow cut s t in
            ap stopped reached ∙ sym (clip_over most (node p q cut rec s t) (omega arith))
        enter false e = at (p.done s) (leb-false most t.steps e)

  pub run_clips : (f : ℕ) → Clips (walk p q cut f) (run p q cut most f)
  unfolding run walk
  run_clips zero s t h = sym (clip_within most t h)
  run_clips (suc f) s t h =
      node_clips (walk p q cut f) (run p q cut most f) (walk_grow p q cut f) (run_clips f) s t h
