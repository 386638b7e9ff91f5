-- An entry of the graph and of the prices, from the score of its pair. Assumes nothing.
use mathlib.Core.Path.{◌≡◌, refl, sym, ◌∙◌, ap, ap₂}
use mathlib.Core.Logic.{◌≢◌}
use mathlib.Core.Bool.{Bool, true, false}
use mathlib.Core.List.{List}
use Prim.Native.Nat.{ℕ}
use lib.IntN.{ℤ}
use borrow.Author.Tests.{eq-eqb, ne_eqb}
use Rattle.std.specs.Int.{from_bool}
use Rattle.bits.specs.Choice.{pick}
use Rattle.bits.proofs.Truth.{pick_true, pick_false}
use Rattle.scores.specs.Scale.{edge_of, price_of, score_of, edge_byte, price_entry}

one_or_zero : (b : Bool) → from_bool b ≡ pick b 1 0
one_or_zero true = refl
one_or_zero false = refl

module _ (n : ℕ) (t : ℤ) (scores : List ℤ) where
  pub edge_diagonal : (i j : ℕ) → i ≡ j → 0 ≡ edge_byte n t scores i j
  unfolding edge_byte
  edge_diagonal i j e = sym (pick_true 0 (pick (edge_of (score_of n scores i j) t) 1 0) (eq-eqb i j e))

  pub price_diagonal : (i j : ℕ) → i ≡ j → 0 ≡ price_entry n t scores i j
  unfolding price_entry
  price_diagonal i j e = sym (pick_true 0 (price_of (score_of n scores i j) t) (eq-eqb i j e))

  -- off the diagonal, by the score z of the pair
  module _ (i j : ℕ) (apart : i ≢ j) (z u : ℤ) (here : z ≡ score_of n scores i j) (same : u ≡ t) where
    pub edge_apart : (b : Bool) → edge_of z u ≡ b → from_bool b ≡ edge_byte n t scores i j
    unfolding edge_byte
    edge_apart b h =
        one_or_zero b
        ∙ ap (λ x. pick x 1 0) (sym h ∙ ap₂ edge_of here same)
        ∙ sym (pick_false 0 (pick (edge_of (score_of n scores i j) t) 1 0) (ne_eqb i j apart))

    pub price_apart : price_of z u ≡ price_entry n t scores i j
    unfolding price_entry
    price_apart = ap₂ price_of here same ∙ sym (pick_false 0 (price_of (score_of n scores i j) t) (ne_eqb i j apart))
