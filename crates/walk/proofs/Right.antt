-- What a walk keeps is right, for any safe cut: if x is what is to be kept of a set P before a node, then what the
-- walk makes of x is what is to be kept of P and the answers below the node. By induction over the ways left: an
-- answer below s has the way, and is below `add s w`, or has it not, and is below `mark s w`. Assumes nothing.
use Prim.Native.Nat.{ℕ, zero, suc, ◌+◌, ◌≤◌, ◌<◌}
use mathlib.Core.Path.{◌≡◌, refl}
use mathlib.Core.Logic.{◌⊎◌, inl, inr}
use mathlib.Core.Bool.{Bool, true, false}
use mathlib.Core.List.{List, [], ◌∷◌}
use native.Mathlib.Omega.{arith}
use lib.Dec.{leb}
use borrow.Author.Tests.{leb-false}
use Rattle.bits.proofs.Truth.{never, and_out}
use Rattle.walk.specs.Problem.{Problem, Keeper, Tally}
use Rattle.walk.specs.Walk.{Search, entered, only_if, found, opens, tries, branch, visit, node, walk}
use Rattle.walk.proofs.Steady.{opens_free, opens_within}
use Rattle.walk.proofs.Laws.{Laws, Keeping, Safe, Either, marked}

-- one part of a union, another for it
either_map : {A B C : Type 0} → (B → C) → A ⊎ B → A ⊎ C
either_map f (inl a) = inl a
either_map f (inr b) = inr (f b)

module _
    {p : Problem}
    {q : Keeper p.Answer}
    {price : p.Answer → ℕ}
    {Beats : p.Answer → p.Answer → Type 0}
    (l : Laws p price Beats)
    (g : Keeping q price Beats)
  where
    -- a search is right at the nodes with fewer than f free ways
    abbrev pub Right : ℕ → Search p q → Type 1
    Right f rec =
        (s : p.Node) (P : p.Answer → Type 0) (t : Tally q.Kept) → l.Fit s → l.count s < f →
        p.spent s ≤ q.limit t.kept → g.Good P t.kept → g.Good (Either P (l.Below s)) (rec s t).kept

    -- the answers that have the way w
    abbrev pub With : p.Node → p.Way → p.Answer → Type 0
    With s w a = (p.free s w ≡ true) × l.Below (p.add s w) a

    -- a way that is not entered has no answer within the limit
    shut_above :
        (s : p.Node) (w : p.Way) (x : q.Kept) (a : p.Answer) → l.Fit s → opens p q s w x ≡ false → With s w a →
        q.limit x < price a
    unfolding opens
    shut_above s w x a fit e has = go (and_out (p.free s w) (leb (p.spent s + p.toll w) (q.limit x)) e)
      where
        go : (p.free s w ≡ false) ⊎ (leb (p.spent s + p.toll w) (q.limit x) ≡ false) → q.limit x < price a
        go (inl shut) = never has.0 shut
        go (inr dear) =
            let added = l.spent_add s w fit has.0 in
            let least = l.spent_below (p.add s w) a (l.fit_add s w fit has.0) has.1 in
            omega (arith, leb-false)

    module _ (f : ℕ) (rec : Search p q) (right : Right f rec) where
      -- one way, entered or not
      pub try_right :
          (s : p.Node) (w : p.Way) (P : p.Answer → Type 0) (t : Tally q.Kept) → l.Fit s → l.count s ≤ f →
          g.Good P t.kept →
          g.Good (Either P (With s w)) (only_if (opens p q s w t.kept) (rec (p.add s w)) t).kept
      unfolding only_if
      try_right s w P t fit fuel good = go (opens p q s w t.kept) refl
        where
          go : (b : Bool) → opens p q s w t.kept ≡ b → g.Good (Either P (With s w)) (only_if b (rec (p.add s w)) t).kept
          go true e =
              let free = opens_free p q s w t.kept e in
              let fit' = l.fit_add s w fit free in
              let fuel' = l.count_add s w fit free in
              let added = l.spent_add s w fit free in
              let within = opens_within p q s w t.kept e in
              g.same (Either P (l.Below (p.add s w))) (Either P (With s w)) _
              (λ a. either_map (λ h. (free, h)))
              (λ a. either_map (λ h. h.1))
              (right (p.add s w) P t fit' (omega arith) (omega arith) good)
          go false e = g.above P (With s w) t.kept (λ a. shut_above s w t.kept a fit e) good

      -- the ways left, where no answer is below the node once all of them are marked
      tries_right :
          (ws : List p.Way) (s : p.Node) (P : p.Answer → Type 0) (t : Tally q.Kept) → l.Fit s → l.count s ≤ f →
          ((a : p.Answer) → l.Below (marked p s ws) a → ⊥) → g.Good P t.kept →
          g.Good (Either P (l.Below s)) (tries p q rec s ws t).kept
      unfolding tries marked
      tries_right [] s P t fit fuel empty good =
          g.above P (l.Below s) t.kept (λ a below. absurd (empty a below)) good
      tries_right (w ∷ ws) s P t fit fuel empty good =
          let tried = try_right s w P t fit fuel good in
          let fewer = l.count_mark s w fit in
          let rest = tries_right ws (p.mark s w) (Either P (With s w)) _ (l.fit_mark s w fit) (omega arith) empty tried in
          g.same (Either (Either P (With s w)) (l.Below (p.mark s w))) (Either P (l.Below s)) _
          (λ a. up a) (λ a. down a) rest
        where
          up : (a : p.Answer) → (P a ⊎ With s w a) ⊎ l.Below (p.mark s w) a → P a ⊎ l.Below s a
          up a (inl (inl h)) = inl h
          up a (inl (inr h)) = inr (l.up_add s w a fit h.0 h.1)
          up a (inr h) = inr (l.up_mark s w a fit h)

          part : (a : p.Answer) → With s w a ⊎ l.Below (p.mark s w) a → (P a ⊎ With s w a) ⊎ l.Below (p.mark s w) a
          part a (inl h) = inl (inr h)
          part a (inr h) = inr h

          down : (a : p.Answer) → P a ⊎ l.Below s a → (P a ⊎ With s w a) ⊎ l.Below (p.mark s w) a
          down a (inl h) = inl (inl h)
          down a (inr h) = part a (l.split s w a fit h)

      node_right : (cut : p.Node → ℕ → Bool) → Safe l cut → Right (suc f) (node p q cut rec)
      unfolding node entered visit branch found
      node_right cut safe s P t fit fuel within good = at (p.done s) refl
        where
          t' : Tally q.Kept
          t' = entered t

          leave : (b : Bool) → p.done s ≡ false → cut s (q.limit t.kept) ≡ b →
              g.Good (Either P (l.Below s)) (branch p q b rec s t').kept
          leave true d e = g.above P (l.Below s) t.kept (λ a. safe s (q.limit t.kept) a fit e) good
          leave false d e = tries_right (p.ways s) s P t' fit (omega arith) (λ a. l.go s a fit d) good

          at : (b : Bool) → p.done s ≡ b → g.Good (Either P (l.Below s)) (visit p q cut b rec s t').kept
          at true d =
              let cost = l.spent_answer s fit in
              g.take P (l.Below s) t.kept (p.answer s) (l.stop s fit d) (λ a. l.beats s a fit d) (omega arith) good
          at false d = leave (cut s (q.limit t.kept)) d refl

    pub walk_right : (cut : p.Node → ℕ → Bool) → Safe l cut → (f : ℕ) → Right f (walk p q cut f)
    unfolding walk
    walk_right cut safe zero s P t fit fuel within good = absurd (omega arith)
    walk_right cut safe (suc f) s P t fit fuel within good =
        node_right f (walk p q cut f) (walk_right cut safe f) cut safe s P t fit fuel within good
