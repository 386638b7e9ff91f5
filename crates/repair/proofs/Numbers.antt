-- The number of a pair of vertices: it tells the pair, and it is the number of a pair. By n times the smaller plus the
-- greater, which the quotient and the remainder take apart again. Assumes nothing.
use mathlib.Core.Path.{◌≡◌, refl, sym, ap, ap₂, ◌∙◌}
use mathlib.Core.Logic.{◌⊎◌, inl, inr, ◌≢◌}
use mathlib.Core.Bool.{Bool, true, false, ◌&&◌}
use Prim.Native.Nat.{ℕ, suc, ◌+◌, ◌*◌, ◌/◌, ◌%◌, ◌<◌, min, max}
use native.Mathlib.Nat.{
  min_comm,
  max_comm,
  mul-add-div_right,
  mul-add-mod_self_right,
  div-eq_of_lt,
  mod-eq_of_lt,
  mul-le-mul_right,
  suc-mul,
}
use native.Mathlib.Omega.{arith}
use lib.Dec.{ltb, eqb}
use borrow.Author.Tests.{lt-ltb, eq-eqb, ltb-true, ltb-false}
use Rattle.bits.proofs.Truth.{and_in, and_left, or_left, or_right}
use Rattle.graph.specs.Graph as graph
use Rattle.graph.proofs.Flipping.{pair_out}
use Rattle.repair.specs.Pair.{pair_of, is_pair, changeable}

pub pair_mirrored : (n x y : ℕ) → pair_of n x y ≡ pair_of n y x
unfolding pair_of
pair_mirrored n x y = ap₂ (λ s t. s * n + t) (min_comm x y) (max_comm x y)

module _ (n x y : ℕ) (x-in : x < n) (y-in : y < n) where
  -- the smaller and the greater vertex, from the number
  pub pair_low : pair_of n x y / n ≡ min x y
  unfolding pair_of
  pair_low =
      mul-add-div_right {m = n} (omega arith) (min x y) (max x y) ∙
      ap (λ t. min x y + t) (div-eq_of_lt {n = max x y} {m = n} (omega arith)) ∙ omega arith

  pub pair_high : pair_of n x y % n ≡ max x y
  unfolding pair_of
  pair_high = mul-add-mod_self_right (min x y) n (max x y) ∙ mod-eq_of_lt {n = max x y} {m = n} (omega arith)

  pub pair_below : pair_of n x y < n * n
  unfolding pair_of
  pair_below = omega (arith, mul-le-mul_right {m = suc (min x y)} {n = n} n (omega arith), suc-mul (min x y) n)

  -- different vertices have the number of a pair
  pub pair_is : x ≢ y → is_pair n (pair_of n x y) ≡ true
  unfolding is_pair
  pair_is apart =
      and_in (lt-ltb (pair_of n x y) (n * n) pair_below)
      (rw (pair_low, pair_high) (lt-ltb (min x y) (max x y) (omega arith)))

-- the smaller and the greater of two tell them
ordered :
    (x y i j : ℕ) → min x y ≡ min i j → max x y ≡ max i j → ((i ≡ x) × (j ≡ y)) ⊎ ((i ≡ y) × (j ≡ x))
ordered x y i j low high = go (ltb x y) (ltb i j) refl refl
  where
    go : (s t : Bool) → ltb x y ≡ s → ltb i j ≡ t → ((i ≡ x) × (j ≡ y)) ⊎ ((i ≡ y) × (j ≡ x))
    go true true a b = inl (omega (arith, ltb-true), omega (arith, ltb-true))
    go true false a b = inr (omega (arith, ltb-true, ltb-false), omega (arith, ltb-true, ltb-false))
    go false true a b = inr (omega (arith, ltb-true, ltb-false), omega (arith, ltb-true, ltb-false))
    go false false a b = inl (omega (arith, ltb-false), omega (arith, ltb-false))

-- two pairs of vertices with the same number are the same pair
pub pair_tells :
    (n x y i j : ℕ) → x < n → y < n → i < n → j < n → pair_of n x y ≡ pair_of n i j → graph.is_pair x y i j ≡ true
pair_tells n x y i j lx ly li lj e =
    go
    (ordered x y i j (sym (pair_low n x y lx ly) ∙ ap (λ t. t / n) e ∙ pair_low n i j li lj)
    (sym (pair_high n x y lx ly) ∙ ap (λ t. t % n) e ∙ pair_high n i j li lj))
  where
    go : ((i ≡ x) × (j ≡ y)) ⊎ ((i ≡ y) × (j ≡ x)) → graph.is_pair x y i j ≡ true
    go (inl h) = or_left _ (and_in (eq-eqb i x h.0) (eq-eqb j y h.1))
    go (inr h) = or_right (eqb i x && eqb j y) (and_in (eq-eqb i y h.0) (eq-eqb j x h.1))

-- the same pair has the same number
pub pair_told : (n x y i j : ℕ) → graph.is_pair x y i j ≡ true → pair_of n i j ≡ pair_of n x y
pair_told n x y i j h = go (pair_out x y i j h)
  where
    go : ((i ≡ x) × (j ≡ y)) ⊎ ((i ≡ y) × (j ≡ x)) → pair_of n i j ≡ pair_of n x y
    go (inl k) = ap₂ (pair_of n) k.0 k.1
    go (inr k) = ap₂ (pair_of n) k.0 k.1 ∙ pair_mirrored n y x

-- a pair that may be changed has a number below n x n
pub changeable_below : (n : ℕ) (toll : ℕ → ℕ) (x : ℕ) → changeable n toll x ≡ true → x < n * n
unfolding changeable is_pair
changeable_below n toll x h = ltb-true x (n * n) (and_left (ltb x (n * n)) _ (and_left (is_pair n x) _ h))
