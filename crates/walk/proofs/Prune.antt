-- A cut costs nothing and saves steps: of two safe cuts the one that cuts more counts no more steps, and both keep the
-- same. Both keep what is to be kept of the same answers, so their limits agree at every node. Assumes nothing.
use Prim.Native.Nat.{ℕ, zero, suc, ◌≤◌, ◌<◌}
use mathlib.Core.Path.{◌≡◌, refl, sym, ap, ◌∙◌, subst}
use mathlib.Core.Bool.{Bool, true, false}
use mathlib.Core.List.{List, [], ◌∷◌}
use native.Mathlib.Omega.{arith}
use Rattle.bits.proofs.Truth.{never}
use Rattle.walk.specs.Problem.{Problem, Keeper, Tally}
use Rattle.walk.specs.Walk.{Search, entered, only_if, found, opens, tries, branch, visit, node, walk}
use Rattle.walk.proofs.Laws.{Laws, Keeping, Safe, Either}
use Rattle.walk.proofs.Steady.{Growing, opens_free, opens_within, tries_grow, walk_grow}
use Rattle.walk.proofs.Right.{Right, With, try_right, walk_right}

module _
    {p : Problem}
    {q : Keeper p.Answer}
    {price : p.Answer → ℕ}
    {Beats : p.Answer → p.Answer → Type 0}
    (l : Laws p price Beats)
    (g : Keeping q price Beats)
  where
    -- from the same kept, the first search counts no more steps than the second
    abbrev pub Leaner : ℕ → Search p q → Search p q → Type 1
    Leaner f rec other =
        (s : p.Node) (P : p.Answer → Type 0) (t u : Tally q.Kept) → l.Fit s → l.count s < f →
        p.spent s ≤ q.limit t.kept → g.Good P t.kept → t.kept ≡ u.kept → t.steps ≤ u.steps →
        (rec s t).steps ≤ (other s u).steps

    module _
        (f : ℕ)
        (rec other : Search p q)
        (right : Right l g f rec)
        (right' : Right l g f other)
        (lean : Leaner f rec other)
      where
        try_lean :
            (s : p.Node) (w : p.Way) (P : p.Answer → Type 0) (t u : Tally q.Kept) → l.Fit s → l.count s ≤ f →
            g.Good P t.kept → t.kept ≡ u.kept → t.steps ≤ u.steps →
            (only_if (opens p q s w t.kept) (rec (p.add s w)) t).steps ≤
            (only_if (opens p q s w u.kept) (other (p.add s w)) u).steps
        unfolding only_if
        try_lean s w P t u fit fuel good same less =
            at (opens p q s w t.kept) (opens p q s w u.kept) refl (ap (opens p q s w) (sym same))
          where
            at :
                (b c : Bool) → opens p q s w t.kept ≡ b → c ≡ opens p q s w t.kept →
                (only_if b (rec (p.add s w)) t).steps ≤ (only_if c (other (p.add s w)) u).steps
            at true true e d =
                let free = opens_free p q s w t.kept e in
                let within = opens_within p q s w t.kept e in
                let added = l.spent_add s w fit free in
                let fewer = l.count_add s w fit free in
                lean (p.add s w) P t u (l.fit_add s w fit free) (omega arith) (omega arith) good same less
            at true false e d = never e (sym d)
            at false true e d = never (sym d) e
            at false false e d = less

        tries_lean :
            (ws : List p.Way) (s : p.Node) (P : p.Answer → Type 0) (t u : Tally q.Kept) → l.Fit s → l.count s ≤ f →
            g.Good P t.kept → t.kept ≡ u.kept → t.steps ≤ u.steps →
            (tries p q rec s ws t).steps ≤ (tries p q other s ws u).steps
        unfolding tries
        tries_lean [] s P t u fit fuel good same less = less
        tries_lean (w ∷ ws) s P t u fit fuel good same less =
            let fewer = l.count_mark s w fit in
            let tried = try_right l g f rec right s w P t fit fuel good in
            let good' = subst (g.Good P) same good in
            let tried' = try_right l g f other right' s w P u fit fuel good' in
            tries_lean ws (p.mark s w) (Either P (With l g s w))
            (only_if (opens p q s w t.kept) (rec (p.add s w)) t)
            (only_if (opens p q s w u.kept) (other (p.add s w)) u)
            (l.fit_mark s w fit) (omega arith) tried
            (g.only (Either P (With l g s w)) _ _ tried tried')
            (try_lean s w P t u fit fuel good same less)

        node_lean :
            (cut slow : p.Node → ℕ → Bool) → ((s : p.Node) (limit : ℕ) → slow s limit ≡ true → cut s limit ≡ true) →
            Growing p q other → Leaner (suc f) (node p q cut rec) (node p q slow other)
        unfolding node visit branch entered found
        node_lean cut slow more grow s P t u fit fuel within good same less = at (p.done s)
          where
            leave :
                (b c : Bool) → cut s (q.limit t.kept) ≡ b → slow s (q.limit u.kept) ≡ c →
                (branch p q b rec s (entered t)).steps ≤ (branch p q c other s (entered u)).steps
            leave true true e d = omega arith
            leave true false e d =
                let on = tries_grow p q other grow (p.ways s) s (entered u) in
                omega arith
            leave false true e d =
                let d' : slow s (q.limit t.kept) ≡ true = ap (λ x. slow s (q.limit x)) same ∙ d in
                never (more s (q.limit t.kept) d') e
            leave false false e d =
                tries_lean (p.ways s) s P (entered t) (entered u) fit (omega arith) good same (omega arith)

            at : (b : Bool) → (visit p q cut b rec s (entered t)).steps ≤ (visit p q slow b other s (entered u)).steps
            at true = omega arith
            at false = leave (cut s (q.limit t.kept)) (slow s (q.limit u.kept)) refl refl

    pub walk_lean :
        (cut slow : p.Node → ℕ → Bool) → Safe l cut → Safe l slow →
        ((s : p.Node) (limit : ℕ) → slow s limit ≡ true → cut s limit ≡ true) →
        (f : ℕ) → Leaner f (walk p q cut f) (walk p q slow f)
    unfolding walk
    walk_lean cut slow safe safe' more zero s P t u fit fuel within good same less = less
    walk_lean cut slow safe safe' more (suc f) s P t u fit fuel within good same less =
        node_lean f (walk p q cut f) (walk p q slow f)
        (walk_right l g cut safe f)
        (walk_right l g slow safe' f)
        (walk_lean cut slow safe safe' more f)
        cut slow more (walk_grow p q slow f) s P t u fit fuel within good same less
