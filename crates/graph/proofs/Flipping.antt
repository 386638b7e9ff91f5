-- Toggling a pair: twice is not at all, either way round is the same, and it leaves a graph a graph. Assumes nothing.
use mathlib.Core.Path.{◌≡◌, refl, sym, ◌∙◌, ap, ap₂, fun_ext}
use mathlib.Core.Logic.{◌⊎◌, inl, inr, ◌≢◌}
use mathlib.Core.Bool.{Bool, true, false, not, ◌&&◌, ◌||◌, and_comm, or_comm, not-not}
use Prim.Native.Nat.{ℕ, ◌<◌}
use native.Mathlib.Omega.{arith}
use lib.Dec.{eqb}
use borrow.Author.Tests.{eqb-true, eq-eqb}
use Rattle.bits.specs.Choice.{pick}
use Rattle.bits.proofs.Truth.{which, fails, and_in, and_left, and_right, or_left, or_out, pick_true, pick_false}
use Rattle.graph.specs.Graph.{IsGraph, is_pair, flipped}

-- the pair {x, y} is {i, j} one way round or the other
pub pair_out : (x y i j : ℕ) → is_pair x y i j ≡ true → ((i ≡ x) × (j ≡ y)) ⊎ ((i ≡ y) × (j ≡ x))
pair_out x y i j p = go (or_out (eqb i x && eqb j y) (eqb i y && eqb j x) p)
  where
    go :
        ((eqb i x && eqb j y) ≡ true) ⊎ ((eqb i y && eqb j x) ≡ true) →
        ((i ≡ x) × (j ≡ y)) ⊎ ((i ≡ y) × (j ≡ x))
    go (inl z) = inl (eqb-true i x (and_left (eqb i x) (eqb j y) z), eqb-true j y (and_right (eqb i x) (eqb j y) z))
    go (inr z) = inr (eqb-true i y (and_left (eqb i y) (eqb j x) z), eqb-true j x (and_right (eqb i y) (eqb j x) z))

pub pair_itself : (x y : ℕ) → is_pair x y x y ≡ true
pair_itself x y = or_left (eqb x y && eqb y x) (and_in (eq-eqb x x refl) (eq-eqb y y refl))

pub pair_turned : (x y i j : ℕ) → is_pair x y i j ≡ is_pair y x i j
pair_turned x y i j = or_comm (eqb i x && eqb j y) (eqb i y && eqb j x)

pub pair_mirrored : (x y i j : ℕ) → is_pair x y i j ≡ is_pair x y j i
pair_mirrored x y i j =
    or_comm (eqb i x && eqb j y) (eqb i y && eqb j x) ∙
    ap₂ ◌||◌ (and_comm (eqb i y) (eqb j x)) (and_comm (eqb i x) (eqb j y))

module _ (x y : ℕ) (e : ℕ → ℕ → Bool) where
  -- the pair changes, and nothing else does
  pub flipped_pair : (i j : ℕ) → is_pair x y i j ≡ true → flipped x y e i j ≡ not (e i j)
  unfolding flipped
  flipped_pair i j p = pick_true (not (e i j)) (e i j) p

  pub flipped_other : (i j : ℕ) → is_pair x y i j ≡ false → flipped x y e i j ≡ e i j
  unfolding flipped
  flipped_other i j p = pick_false (not (e i j)) (e i j) p

  pub flipped_turned : flipped x y e ≡ flipped y x e
  unfolding flipped
  flipped_turned =
      fun_ext (λ i. fun_ext (λ j. ap (λ t. pick t (not (e i j)) (e i j)) (pair_turned x y i j)))

  pub flipped_twice : flipped x y (flipped x y e) ≡ e
  unfolding flipped
  flipped_twice = fun_ext (λ i. fun_ext (λ j. twice (is_pair x y i j) (e i j)))
    where
      twice : (t v : Bool) → pick t (not (pick t (not v) v)) (pick t (not v) v) ≡ v
      twice true v = not-not v
      twice false v = refl

  pub flipped_mirrored :
      ((i j : ℕ) → e i j ≡ e j i) → (i j : ℕ) → flipped x y e i j ≡ flipped x y e j i
  unfolding flipped
  flipped_mirrored h i j = ap₂ (λ t v. pick t (not v) v) (pair_mirrored x y i j) (h i j)

  -- of two different vertices
  pub flipped_graph : (n : ℕ) → IsGraph n e → x < n → y < n → x ≢ y → IsGraph n (flipped x y e)
  flipped_graph n G lx ly d = record { inside = inside; loopless = loopless; mirrored = flipped_mirrored G.mirrored }
    where
      inside : (i j : ℕ) → flipped x y e i j ≡ true → (i < n) × (j < n)
      inside i j p = go (which (is_pair x y i j))
        where
          ends : ((i ≡ x) × (j ≡ y)) ⊎ ((i ≡ y) × (j ≡ x)) → (i < n) × (j < n)
          ends (inl z) = let u = z.0 in let w = z.1 in (omega arith, omega arith)
          ends (inr z) = let u = z.0 in let w = z.1 in (omega arith, omega arith)

          go : (is_pair x y i j ≡ true) ⊎ (is_pair x y i j ≡ false) → (i < n) × (j < n)
          go (inl z) = ends (pair_out x y i j z)
          go (inr z) = G.inside i j (sym (flipped_other i j z) ∙ p)

      loopless : (i : ℕ) → flipped x y e i i ≡ false
      loopless i = flipped_other i i (fails (λ z. alone (pair_out x y i i z))) ∙ G.loopless i
        where
          alone : ((i ≡ x) × (i ≡ y)) ⊎ ((i ≡ y) × (i ≡ x)) → ⊥
          alone (inl z) = d (sym z.0 ∙ z.1)
          alone (inr z) = d (sym z.1 ∙ z.0)
