-- Fuel: two walks with more fuel than free ways are equal. Assumes nothing.
use Prim.Native.Nat.{ℕ, zero, suc, ◌≤◌, ◌<◌}
use mathlib.Core.Path.{◌≡◌, refl, ap, ◌∙◌}
use mathlib.Core.Bool.{Bool, true, false}
use mathlib.Core.List.{List, [], ◌∷◌}
use native.Mathlib.Omega.{arith}
use Rattle.walk.specs.Problem.{Problem, Keeper, Tally}
use Rattle.walk.specs.Walk.{Search, entered, only_if, opens, tries, branch, visit, node, walk}
use Rattle.walk.proofs.Laws.{Laws}
use Rattle.walk.proofs.Steady.{opens_free}

module _
    {p : Problem}
    {price : p.Answer → ℕ}
    {Beats : p.Answer → p.Answer → Type 0}
    (q : Keeper p.Answer)
    (l : Laws p price Beats)
  where
    -- two searches agree at the nodes with fewer than m free ways
    abbrev pub Agree : ℕ → Search p q → Search p q → Type 0
    Agree m rec other = (s : p.Node) (t : Tally q.Kept) → l.Fit s → l.count s < m → rec s t ≡ other s t

    module _ (m : ℕ) (rec other : Search p q) (agree : Agree m rec other) where
      try_agree :
          (s : p.Node) (w : p.Way) (t : Tally q.Kept) → l.Fit s → l.count s ≤ m →
          only_if (opens p q s w t.kept) (rec (p.add s w)) t ≡ only_if (opens p q s w t.kept) (other (p.add s w)) t
      unfolding only_if
      try_agree s w t fit fuel = at (opens p q s w t.kept) refl
        where
          at : (b : Bool) → opens p q s w t.kept ≡ b →
              only_if b (rec (p.add s w)) t ≡ only_if b (other (p.add s w)) t
          at true e =
              let free = opens_free p q s w t.kept e in
              let fewer = l.count_add s w fit free in
              agree (p.add s w) t (l.fit_add s w fit free) (omega arith)
          at false e = refl

      tries_agree :
          (ws : List p.Way) (s : p.Node) (t : Tally q.Kept) → l.Fit s → l.count s ≤ m →
          tries p q rec s ws t ≡ tries p q other s ws t
      unfolding tries
      tries_agree [] s t fit fuel = refl
      tries_agree (w ∷ ws) s t fit fuel =
          let fewer = l.count_mark s w fit in
          tries_agree ws (p.mark s w) (only_if (opens p q s w t.kept) (rec (p.add s w)) t) (l.fit_mark s w fit) (omega arith) ∙
          ap (tries p q other (p.mark s w) ws) (try_agree s w t fit fuel)

      node_agree : (cut : p.Node → ℕ → Bool) → Agree (suc m) (node p q cut rec) (node p q cut other)
      unfolding node visit branch
      node_agree cut s t fit fuel = at (p.done s)
        where
          leave : (b : Bool) → branch p q b rec s (entered t) ≡ branch p q b other s (entered t)
          leave true = refl
          leave false = tries_agree (p.ways s) s (entered t) fit (omega arith)

          at : (b : Bool) → visit p q cut b rec s (entered t) ≡ visit p q cut b other s (entered t)
          at true = refl
          at false = leave (cut s (q.limit (entered t).kept))

    pub walk_agree :
        (cut : p.Node → ℕ → Bool) (m f e : ℕ) → m ≤ f → m ≤ e → Agree m (walk p q cut f) (walk p q cut e)
    unfolding walk
    walk_agree cut zero f e hf he s t fit fuel = absurd (omega arith)
    walk_agree cut (suc m) zero e hf he s t fit fuel = absurd (omega arith)
    walk_agree cut (suc m) (suc f) zero hf he s t fit fuel = absurd (omega arith)
    walk_agree cut (suc m) (suc f) (suc e) hf he s t fit fuel =
        node_agree m (walk p q cut f) (walk p q cut e) (walk_agree cut m f e (omega arith) (omega arith)) cut s t fit fuel
