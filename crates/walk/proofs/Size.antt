-- How large the tree is: at most geo b d nodes below a node of height at most d, with at most b ways at each.
-- The nodes of height below d number at most `terms b d`, so no case of d stands apart. Assumes nothing.
use Prim.Native.Nat.{ℕ, zero, suc, ◌+◌, ◌*◌, ◌^◌, ◌≤◌, ◌<◌}
use mathlib.Core.Path.{◌≡◌, refl, ap, ◌∙◌}
use mathlib.Core.Bool.{Bool, true, false}
use mathlib.Core.List.{List, [], ◌∷◌}
use native.Mathlib.Nat.{suc-mul, mul-zero, mul-add, pow-zero, pow-succ', mul-le-mul_right}
use native.Mathlib.Omega.{arith}
use lib.ListN.{length}
use Rattle.walk.specs.Problem.{Problem, Keeper, Tally}
use Rattle.walk.specs.Walk.{Search, entered, only_if, found, opens, tries, branch, visit, node, walk, geo}
use Rattle.walk.proofs.Laws.{Laws, Keeping, Steep}
use Rattle.walk.proofs.Steady.{opens_free, opens_within, try_fall, walk_fall, Falling}

-- 1 + b + .. with d terms
terms : ℕ → ℕ → ℕ
terms b zero = 0
terms b (suc d) = 1 + b * terms b d

terms_more : (b d : ℕ) → terms b (suc d) ≡ terms b d + b ^ d
unfolding terms
terms_more b zero = omega (arith, mul-zero b, pow-zero b)
terms_more b (suc d) =
    let ih : terms b (suc d) ≡ terms b d + b ^ d = terms_more b d in
    let open' : b * terms b (suc d) ≡ b * terms b d + b * b ^ d = ap (◌*◌ b) ih ∙ mul-add b (terms b d) (b ^ d) in
    omega (arith, pow-succ' b d)

geo_terms : (b d : ℕ) → geo b d ≡ terms b (suc d)
unfolding geo
geo_terms b zero = unfold terms in omega (arith, mul-zero b)
geo_terms b (suc d) = omega (arith, geo_terms b d, terms_more b (suc d))

module _
    {p : Problem}
    {q : Keeper p.Answer}
    {price : p.Answer → ℕ}
    {Beats : p.Answer → p.Answer → Type 0}
    (l : Laws p price Beats)
    (g : Keeping q price Beats)
    (k b : ℕ)
    (height : p.Node → ℕ)
    (steep : Steep p l.Fit k b height)
  where
    abbrev Small : Search p q → Type 0
    Small rec =
        (d : ℕ) (s : p.Node) (t : Tally q.Kept) → l.Fit s → height s < d → q.limit t.kept ≤ k →
        p.spent s ≤ q.limit t.kept → (rec s t).steps ≤ t.steps + terms b d

    module _ (rec : Search p q) (fall : Falling l g rec) (small : Small rec) where
      try_small :
          (d : ℕ) (s : p.Node) (w : p.Way) (t : Tally q.Kept) → l.Fit s → height s ≤ d → q.limit t.kept ≤ k →
          (only_if (opens p q s w t.kept) (rec (p.add s w)) t).steps ≤ t.steps + terms b d
      unfolding only_if
      try_small d s w t fit high low = at (opens p q s w t.kept) refl
        where
          at :
              (c : Bool) → opens p q s w t.kept ≡ c →
              (only_if c (rec (p.add s w)) t).steps ≤ t.steps + terms b d
          at true e =
              let free = opens_free p q s w t.kept e in
              let within = opens_within p q s w t.kept e in
              let added = l.spent_add s w fit free in
              let down = steep.lower s w fit free (omega arith) in
              small d (p.add s w) t (l.fit_add s w fit free) (omega arith) low (omega arith)
          at false e = omega arith

      tries_small :
          (d : ℕ) (ws : List p.Way) (s : p.Node) (t : Tally q.Kept) → l.Fit s → height s ≤ d →
          q.limit t.kept ≤ k → (tries p q rec s ws t).steps ≤ t.steps + length ws * terms b d
      unfolding tries
      tries_small d [] s t fit high low = omega arith
      tries_small d (w ∷ ws) s t fit high low =
          let one = only_if (opens p q s w t.kept) (rec (p.add s w)) t in
          let first = try_small d s w t fit high low in
          let less = try_fall l g rec fall s w t fit in
          let flat = steep.level s w fit in
          let rest = tries_small d ws (p.mark s w) one (l.fit_mark s w fit) (omega arith) (omega arith) in
          omega (arith, suc-mul (length ws) (terms b d))

      node_small : (cut : p.Node → ℕ → Bool) → Small (node p q cut rec)
      unfolding node visit branch entered found terms
      node_small cut zero s t fit high low within = absurd (omega arith)
      node_small cut (suc d) s t fit high low within = at (p.done s)
        where
          leave : (c : Bool) → (branch p q c rec s (entered t)).steps ≤ t.steps + (1 + b * terms b d)
          leave true = omega arith
          leave false =
              let most = mul-le-mul_right (terms b d) (steep.few s fit) in
              let all = tries_small d (p.ways s) s (entered t) fit (omega arith) low in
              omega arith

          at : (c : Bool) → (visit p q cut c rec s (entered t)).steps ≤ t.steps + (1 + b * terms b d)
          at true = omega arith
          at false = leave (cut s (q.limit t.kept))

    walk_small : (cut : p.Node → ℕ → Bool) (f : ℕ) → Small (walk p q cut f)
    unfolding walk
    walk_small cut zero d s t fit high low within = omega arith
    walk_small cut (suc f) d s t fit high low within =
        node_small (walk p q cut f) (walk_fall l g cut f) (walk_small cut f) cut d s t fit high low within

    pub walk_geo :
        (cut : p.Node → ℕ → Bool) (f d : ℕ) (s : p.Node) (t : Tally q.Kept) → l.Fit s → height s ≤ d →
        q.limit t.kept ≤ k → p.spent s ≤ q.limit t.kept → (walk p q cut f s t).steps ≤ t.steps + geo b d
    walk_geo cut f d s t fit high low within =
        let small = walk_small cut f (suc d) s t fit (omega arith) low within in
        omega (arith, geo_terms b d)
