-- What goes one way only along a walk: the steps never fall, the limit never rises. And what an entered way is.
-- Assumes nothing.
use Prim.Native.Nat.{ℕ, zero, suc, ◌+◌, ◌≤◌, ◌<◌}
use mathlib.Core.Path.{◌≡◌, refl}
use mathlib.Core.Bool.{Bool, true, false}
use mathlib.Core.List.{List, [], ◌∷◌}
use native.Mathlib.Omega.{arith}
use borrow.Author.Tests.{leb-true}
use Rattle.bits.proofs.Truth.{and_left, and_right}
use Rattle.walk.specs.Problem.{Problem, Keeper, Tally}
use Rattle.walk.specs.Walk.{Search, entered, only_if, found, opens, tries, branch, visit, node, walk}
use Rattle.walk.proofs.Laws.{Laws, Keeping}

module _ (p : Problem) (q : Keeper p.Answer) where
  -- a way that is entered is free and within the limit
  pub opens_free : (s : p.Node) (w : p.Way) (x : q.Kept) → opens p q s w x ≡ true → p.free s w ≡ true
  unfolding opens
  opens_free s w x e = and_left (p.free s w) _ e

  pub opens_within :
      (s : p.Node) (w : p.Way) (x : q.Kept) → opens p q s w x ≡ true → p.spent s + p.toll w ≤ q.limit x
  unfolding opens
  opens_within s w x e = leb-true _ _ (and_right (p.free s w) _ e)

  abbrev pub Growing : Search p q → Type 0
  Growing rec = (s : p.Node) (t : Tally q.Kept) → t.steps ≤ (rec s t).steps

  module _ (rec : Search p q) (grow : Growing rec) where
    pub try_grow :
        (b : Bool) (s : p.Node) (t : Tally q.Kept) → t.steps ≤ (only_if b (rec s) t).steps
    unfolding only_if
    try_grow true s t = grow s t
    try_grow false s t = omega arith

    pub tries_grow :
        (ws : List p.Way) (s : p.Node) (t : Tally q.Kept) → t.steps ≤ (tries p q rec s ws t).steps
    unfolding tries
    tries_grow [] s t = omega arith
    tries_grow (w ∷ ws) s t =
        let one = try_grow (opens p q s w t.kept) (p.add s w) t in
        let rest = tries_grow ws (p.mark s w) (only_if (opens p q s w t.kept) (rec (p.add s w)) t) in
        omega arith

    -- entering counts
    pub node_grow :
        (cut : p.Node → ℕ → Bool) (s : p.Node) (t : Tally q.Kept) → t.steps < (node p q cut rec s t).steps
    unfolding node visit branch entered found
    node_grow cut s t = at (p.done s)
      where
        leave : (b : Bool) → t.steps < (branch p q b rec s (entered t)).steps
        leave true = omega arith
        leave false = tries_grow (p.ways s) s (entered t)

        at : (b : Bool) → t.steps < (visit p q cut b rec s (entered t)).steps
        at true = omega arith
        at false = leave (cut s (q.limit t.kept))

  pub walk_grow : (cut : p.Node → ℕ → Bool) (f : ℕ) → Growing (walk p q cut f)
  unfolding walk
  walk_grow cut zero s t = omega arith
  walk_grow cut (suc f) s t =
      let more = node_grow (walk p q cut f) (walk_grow cut f) cut s t in
      omega arith

module _
    {p : Problem}
    {q : Keeper p.Answer}
    {price : p.Answer → ℕ}
    {Beats : p.Answer → p.Answer → Type 0}
    (l : Laws p price Beats)
    (g : Keeping q price Beats)
  where
    abbrev pub Falling : Search p q → Type 0
    Falling rec =
        (s : p.Node) (t : Tally q.Kept) → l.Fit s → p.spent s ≤ q.limit t.kept →
        q.limit (rec s t).kept ≤ q.limit t.kept

    module _ (rec : Search p q) (fall : Falling rec) where
      pub try_fall :
          (s : p.Node) (w : p.Way) (t : Tally q.Kept) → l.Fit s →
          q.limit (only_if (opens p q s w t.kept) (rec (p.add s w)) t).kept ≤ q.limit t.kept
      unfolding only_if
      try_fall s w t fit = at (opens p q s w t.kept) refl
        where
          at : (b : Bool) → opens p q s w t.kept ≡ b →
              q.limit (only_if b (rec (p.add s w)) t).kept ≤ q.limit t.kept
          at true e =
              let free = opens_free p q s w t.kept e in
              let within = opens_within p q s w t.kept e in
              let added = l.spent_add s w fit free in
              fall (p.add s w) t (l.fit_add s w fit free) (omega arith)
          at false e = omega arith

      tries_fall :
          (ws : List p.Way) (s : p.Node) (t : Tally q.Kept) → l.Fit s →
          q.limit (tries p q rec s ws t).kept ≤ q.limit t.kept
      unfolding tries
      tries_fall [] s t fit = omega arith
      tries_fall (w ∷ ws) s t fit =
          let one = try_fall s w t fit in
          let rest = tries_fall ws (p.mark s w) (only_if (opens p q s w t.kept) (rec (p.add s w)) t) (l.fit_mark s w fit) in
          omega arith

      node_fall : (cut : p.Node → ℕ → Bool) → Falling (node p q cut rec)
      unfolding node visit branch entered found
      node_fall cut s t fit within = at (p.done s)
        where
          leave : (b : Bool) → q.limit (branch p q b rec s (entered t)).kept ≤ q.limit t.kept
          leave true = omega arith
          leave false = tries_fall (p.ways s) s (entered t) fit

          at : (b : Bool) → q.limit (visit p q cut b rec s (entered t)).kept ≤ q.limit t.kept
          at true =
              let cost = l.spent_answer s fit in
              g.falls t.kept (p.answer s) (omega arith)
          at false = leave (cut s (q.limit t.kept))

    pub walk_fall : (cut : p.Node → ℕ → Bool) (f : ℕ) → Falling (walk p q cut f)
    unfolding walk
    walk_fall cut zero s t fit within = omega arith
    walk_fall cut (suc f) s t fit within = node_fall (walk p q cut f) (walk_fall cut f) cut s t fit within
