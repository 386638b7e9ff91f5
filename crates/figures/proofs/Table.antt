-- The figures of document 01 that are marked *, in a single table with one claim about it: every row holds of the
-- definitions. A row is tested by computing. Assumes nothing.
use mathlib.Core.Path.{◌≡◌, refl}
use mathlib.Core.Bool.{Bool, true, false, ◌&&◌, ◌||◌}
use mathlib.Core.List.{List, [], ◌∷◌, ◌++◌, map}
use Prim.Native.Nat.{ℕ}
use lib.Dec.{eqb}
use Rattle.bits.specs.Choice.{count}
use Rattle.bits.proofs.Truth.{and_in, and_left, and_right}
use Rattle.std.specs.Prelude.{Option, None, Some}
use Rattle.graph.specs.declared.Quad.{Quad}
use Rattle.graph.specs.Each.{each, only}
use Rattle.graph.specs.Quad.{quads, first, is_quad, named}
use Rattle.repair.proofs.Figures as searches
use Rattle.scores.proofs.Figures as scores
use Rattle.forest.specs.Order.{parent, last, before, degree}

-- a graph by its edges, as the document writes it
joins : List (ℕ × ℕ) → ℕ → ℕ → Bool
joins [] i j = false
joins (p ∷ ps) i j = (eqb p.0 i && eqb p.1 j) || (eqb p.0 j && eqb p.1 i) || joins ps i j

equal : List ℕ → List ℕ → Bool
equal [] [] = true
equal [] (y ∷ ys) = false
equal (x ∷ xs) [] = false
equal (x ∷ xs) (y ∷ ys) = eqb x y && equal xs ys

is_at : Option Quad → List ℕ → Bool
is_at None q = false
is_at (Some p) q = equal (p.a ∷ p.b ∷ p.c ∷ p.d ∷ []) q

is_clear : Option Quad → Bool
is_clear None = true
is_clear (Some p) = false

-- a row: a clean graph with its parents; a graph with its first quad; a search or a bound with what it gives; a score, a
-- refusal or a sheet with what is in it
pub data Row : Type 0 where
  forest : ℕ → List (ℕ × ℕ) → List ℕ → Row
  quad : ℕ → List (ℕ × ℕ) → List ℕ → Row
  search : searches.Row → Row
  score : scores.Figure → Row

pub holds : Row → Bool
unfolding each only quads is_quad named parent last before degree count joins equal is_at is_clear
holds (forest n es ps) = is_clear (first (quads n (joins es))) && equal (each n (λ v. parent n (joins es) v ∷ [])) ps
holds (quad n es q) = is_at (first (quads n (joins es))) q
holds (search r) = searches.holds r
holds (score f) = scores.holds f

pub every : List Row → Bool
unfolding holds
every [] = true
every (r ∷ rs) = holds r && every rs

-- "* forest of n = 0: empty; * triangle: 65,535, 0, 1; * edges 01, 12, 23, 02: 2, 0, 65,535, 2.
-- * path 0-1-2-3: quad (0,1,2,3). * path 1-0-3-2: quad (1,0,3,2)."
forests : List Row
forests =
    forest 0 [] [] ∷
    forest 3 ((0, 1) ∷ (1, 2) ∷ (0, 2) ∷ []) (65535 ∷ 0 ∷ 1 ∷ []) ∷
    forest 4 ((0, 1) ∷ (1, 2) ∷ (2, 3) ∷ (0, 2) ∷ []) (2 ∷ 0 ∷ 65535 ∷ 2 ∷ []) ∷
    quad 4 ((0, 1) ∷ (1, 2) ∷ (2, 3) ∷ []) (0 ∷ 1 ∷ 2 ∷ 3 ∷ []) ∷
    quad 4 ((1, 0) ∷ (0, 3) ∷ (3, 2) ∷ []) (1 ∷ 0 ∷ 3 ∷ 2 ∷ []) ∷
    []

-- the single table
pub table : List Row
table = forests ++ (map search searches.figures ++ map score scores.figures)

every_append : (xs ys : List Row) → every xs ≡ true → every ys ≡ true → every (xs ++ ys) ≡ true
unfolding every
every_append [] ys p q = q
every_append (x ∷ xs) ys p q =
    and_in (and_left (holds x) (every xs) p) (every_append xs ys (and_right (holds x) (every xs) p) q)

every_search : (rs : List searches.Row) → searches.all_hold rs ≡ true → every (map search rs) ≡ true
unfolding every holds
every_search [] p = refl
every_search (r ∷ rs) p =
    and_in (and_left (searches.holds r) (searches.all_hold rs) p)
    (every_search rs (and_right (searches.holds r) (searches.all_hold rs) p))

every_score : (fs : List scores.Figure) → scores.every fs ≡ true → every (map score fs) ≡ true
unfolding every holds scores.every
every_score [] p = refl
every_score (f ∷ fs) p =
    and_in (and_left (scores.holds f) (scores.every fs) p)
    (every_score fs (and_right (scores.holds f) (scores.every fs) p))

forests_hold : every forests ≡ true
unfolding every forests
forests_hold = refl

-- every marked figure holds
pub figures_hold : every table ≡ true
unfolding table
figures_hold =
    every_append forests (map search searches.figures ++ map score scores.figures) forests_hold
    (every_append (map search searches.figures) (map score scores.figures)
    (every_search searches.figures searches.figures_hold) (every_score scores.figures scores.figures_hold))
