-- What is promised of the search tree, for any problem, keeper and cut that obey proofs/Laws: W1, what is kept is best;
-- W2, a cut keeps the same and saves steps; W3, the size; W4, the step limit; and that fuel does not matter.
-- Everything else in this crate serves this file. Assumes nothing.
use Prim.Native.Nat.{ℕ, zero, suc, ◌/◌, ◌≤◌, ◌<◌}
use mathlib.Core.Path.{◌≡◌, refl, ◌∙◌, subst}
use mathlib.Core.Logic.{◌⊎◌, inl, inr, ◌↔◌}
use mathlib.Core.Bool.{Bool, true, false}
use mathlib.Core.Option.{Option, none}
use native.Mathlib.Omega.{arith}
use lib.ListN.{length}
use lib.Dec.{ltb}
use borrow.Author.Tests.{ltb-true, ltb-false}
use Rattle.bits.proofs.Truth.{never}
use Rattle.walk.specs.Problem.{Problem, Keeper, Tally}
use Rattle.walk.specs.Walk.{walk, plain, begin, geo}
use Rattle.walk.specs.Run.{stopped, whole, run}
use Rattle.walk.specs.Best.{Order, IsBest, best_of, limit_of}
use Rattle.walk.proofs.Laws.{Laws, Keeping, Ordered, NotBetter, Safe, Steep}
use Rattle.walk.proofs.Right.{walk_right}
use Rattle.walk.proofs.Prune.{walk_lean}
use Rattle.walk.proofs.Fuel.{walk_agree}
use Rattle.walk.proofs.Size.{walk_geo}
use Rattle.walk.proofs.Stop.{clip_over, clip_within, run_clips}
use Rattle.walk.proofs.Steady.{node_grow, walk_grow}
use Rattle.walk.proofs.Height.{left, left_most, left_steep, flat_steep}
use Rattle.walk.proofs.Single.{keeping, best_only}

module _
    {p : Problem}
    {q : Keeper p.Answer}
    {price : p.Answer → ℕ}
    {Beats : p.Answer → p.Answer → Type 0}
    (l : Laws p price Beats)
    (g : Keeping q price Beats)
    (root : p.Node)
    (fit : l.Fit root)
    (start : p.spent root ≤ q.limit q.empty)
  where
    -- fuel: any two above the number of free ways give the same walk
    pub fuel_enough :
        (cut : p.Node → ℕ → Bool) (f e : ℕ) (t : Tally q.Kept) → l.count root < f → l.count root < e →
        walk p q cut f root t ≡ walk p q cut e root t
    fuel_enough cut f e t hf he =
        walk_agree q l cut (suc (l.count root)) f e hf he root t fit (omega arith)

    -- the plain engine's cut is safe
    pub plain_safe : Safe l (plain p)
    unfolding plain
    plain_safe s limit a fits e below = never e refl

    -- W1: what is kept at the end is what is to be kept of all answers below the root
    pub kept_good :
        (cut : p.Node → ℕ → Bool) → Safe l cut → (f : ℕ) → l.count root < f →
        g.Good (l.Below root) (walk p q cut f root (begin q)).kept
    kept_good cut safe f fuel =
        g.same _ (l.Below root) _ all (λ a. inr)
        (walk_right l g cut safe f root (λ a. ⊥) (begin q) fit fuel start g.start)
      where
        all : (a : p.Answer) → ⊥ ⊎ l.Below root a → l.Below root a
        all a (inl h) = absurd h
        all a (inr h) = h

    -- W2: any safe cut keeps the same as any other
    pub cut_keeps :
        (cut slow : p.Node → ℕ → Bool) → Safe l cut → Safe l slow → (f : ℕ) →
        l.count root < f → (walk p q cut f root (begin q)).kept ≡ (walk p q slow f root (begin q)).kept
    cut_keeps cut slow safe safe' f fuel =
        g.only (l.Below root) _ _ (kept_good cut safe f fuel) (kept_good slow safe' f fuel)

    -- W2: the one that cuts more counts no more steps
    pub cut_saves :
        (cut slow : p.Node → ℕ → Bool) → Safe l cut → Safe l slow →
        ((s : p.Node) (limit : ℕ) → slow s limit ≡ true → cut s limit ≡ true) → (f : ℕ) → l.count root < f →
        (walk p q cut f root (begin q)).steps ≤ (walk p q slow f root (begin q)).steps
    cut_saves cut slow safe safe' more f fuel =
        walk_lean l g cut slow safe safe' more f root (λ a. ⊥) (begin q) (begin q) fit fuel start
        g.start refl (omega arith)

    -- W2: any safe cut against none
    pub cut_keeps_plain :
        (cut : p.Node → ℕ → Bool) → Safe l cut → (f : ℕ) → l.count root < f →
        (walk p q cut f root (begin q)).kept ≡ (walk p q (plain p) f root (begin q)).kept
    cut_keeps_plain cut safe = cut_keeps cut (plain p) safe plain_safe

    pub cut_saves_plain :
        (cut : p.Node → ℕ → Bool) → Safe l cut → (f : ℕ) → l.count root < f →
        (walk p q cut f root (begin q)).steps ≤ (walk p q (plain p) f root (begin q)).steps
    unfolding plain
    cut_saves_plain cut safe =
        cut_saves cut (plain p) safe plain_safe (λ s limit e. never e refl)

    -- entering the root is a step
    pub steps_positive :
        (cut : p.Node → ℕ → Bool) (f : ℕ) → 0 < f → 0 < (walk p q cut f root (begin q)).steps
    unfolding walk
    steps_positive cut zero pos = absurd (omega arith)
    steps_positive cut (suc f) pos = node_grow p q (walk p q cut f) (walk_grow p q cut f) cut root (begin q)

    -- W3: by any height that entering lowers
    pub steps_within :
        (cut : p.Node → ℕ → Bool) (k b d : ℕ) (height : p.Node → ℕ) → Steep p l.Fit k b height → height root ≤ d →
        q.limit q.empty ≤ k → (f : ℕ) → (walk p q cut f root (begin q)).steps ≤ geo b d
    steps_within cut k b d height steep high low f =
        let all = walk_geo l g k b height steep cut f d root (begin q) fit high low start in
        omega arith

    module _ (b : ℕ) (few : (s : p.Node) → l.Fit s → length (p.ways s) ≤ b) where
      -- W3: at most b ways at each node, each free one at m or more: "1 + 6 + .. + 6^d" with d = k / m
      pub steps_geo :
          (cut : p.Node → ℕ → Bool) (m : ℕ) → 0 < m →
          ((s : p.Node) (w : p.Way) → l.Fit s → p.free s w ≡ true → m ≤ p.toll w) → (f : ℕ) →
          (walk p q cut f root (begin q)).steps ≤ geo b (q.limit q.empty / m)
      steps_geo cut m pos least =
          let k = q.limit q.empty in
          steps_within cut k b (k / m) (left l k b few m) (left_steep l k b few m pos least)
          (left_most l k b few m root pos) (omega arith)

      -- W3: where no way is ever free the root is all
      pub steps_one :
          (cut : p.Node → ℕ → Bool) → ((s : p.Node) (w : p.Way) → l.Fit s → p.free s w ≡ false) → (f : ℕ) → 0 < f →
          (walk p q cut f root (begin q)).steps ≡ 1
      unfolding geo
      steps_one cut shut f pos =
          let k = q.limit q.empty in
          let most = steps_within cut k b 0 (λ s. 0) (flat_steep l k b few shut) (omega arith) (omega arith) f in
          let least = steps_positive cut f pos in
          omega arith

-- W4: the run under a step limit, for any problem, keeper and cut, with no law
module _ (p : Problem) (q : Keeper p.Answer) (cut : p.Node → ℕ → Bool) (most f : ℕ) (root : p.Node) where
  -- more nodes than the limit: stopped, at the limit's number of steps
  pub run_over :
      most < (walk p q cut f root (begin q)).steps → run p q cut most f root (begin q) ≡ stopped most
  run_over h = run_clips p q cut most f root (begin q) (omega arith) ∙ clip_over most _ h

  -- else the whole walk
  pub run_whole :
      (walk p q cut f root (begin q)).steps ≤ most →
      run p q cut most f root (begin q) ≡ whole (walk p q cut f root (begin q))
  run_whole h = run_clips p q cut most f root (begin q) (omega arith) ∙ clip_within most _ h

  -- and it is stopped in no other case, nor with another number
  pub run_stopped :
      (n : ℕ) → run p q cut most f root (begin q) ≡ stopped n →
      (most < (walk p q cut f root (begin q)).steps) × (n ≡ most)
  run_stopped n e = at (ltb most (walk p q cut f root (begin q)).steps) refl
    where
      at :
          (b : Bool) → ltb most (walk p q cut f root (begin q)).steps ≡ b →
          (most < (walk p q cut f root (begin q)).steps) × (n ≡ most)
      at true d =
          let over = ltb-true most (walk p q cut f root (begin q)).steps d in
          let same = run_over over in
          (over, cc)
      at false d =
          let same = run_whole (ltb-false most (walk p q cut f root (begin q)).steps d) in
          absurd (let z : ◌≡◌ {A = ℕ} 0 1 = cc in omega arith)

-- The single search: the best answer within k.
module _
    {p : Problem}
    {o : Order p.Answer}
    (r : Ordered o)
    (l : Laws p o.price (NotBetter o))
    (k : ℕ)
    (root : p.Node)
    (fit : l.Fit root)
    (start : p.spent root ≤ k)
    (cut : p.Node → ℕ → Bool)
    (safe : Safe l cut)
    (f : ℕ)
    (fuel : l.count root < f)
  where
    -- W1: what is kept is the best answer within k
    pub kept_best : IsBest o k (l.Below root) (walk p (best_of o k) cut f root (begin (best_of o k))).kept
    unfolding limit_of
    kept_best = kept_good l (keeping r k) root fit start cut safe f fuel

    -- W1: no other is
    pub best_kept :
        (x : Option p.Answer) → IsBest o k (l.Below root) x →
        (walk p (best_of o k) cut f root (begin (best_of o k))).kept ≡ x
    best_kept x best = best_only r k (l.Below root) _ x kept_best best

    -- W1: nothing is kept exactly if no answer is within k
    pub none_exactly :
        ((walk p (best_of o k) cut f root (begin (best_of o k))).kept ≡ none) ↔
        ((a : p.Answer) → l.Below root a → k < o.price a)
    none_exactly = (λ e. subst (IsBest o k (l.Below root)) e kept_best, best_kept none)
