-- What `better` shows is determined, is beaten by neither list, and of equal lists is the first. Assumes nothing.
use mathlib.Core.Path.{◌≡◌, sym, ap, ◌∙◌}
use mathlib.Core.Logic.{◌⊎◌, inl, inr}
use mathlib.Core.Bool.{true, false}
use mathlib.Core.List.{List}
use Prim.Native.Nat.{ℕ}
use Rattle.bits.proofs.Truth.{pick_true, pick_false, which}
use Rattle.repair.specs.Better.{smaller, shown}
use Rattle.repair.proofs.Orders.{smaller_irreflexive, smaller_one_way}

-- x and y are lent lists, `list` reads one
module _ {A : Type 0} (list : A → List ℕ) (x y : A) where
  abbrev pub Shows : A → Type 0
  Shows r = r ≡ shown (smaller (list y) (list x)) x y

  -- "any two answers it allows are equal"
  pub better_determined : (r s : A) → Shows r → Shows s → r ≡ s
  better_determined r s p q = p ∙ sym q

  -- "of equal lists the first is shown"
  pub equals_first : (r : A) → Shows r → list x ≡ list y → r ≡ x
  equals_first r p e =
      p ∙ pick_false y x (ap (λ l. smaller l (list x)) (sym e) ∙ smaller_irreflexive (list x))

  -- "The better of two lists is shown": neither of the two is smaller
  pub shown_unbeaten :
      (r : A) → Shows r → (smaller (list x) (list r) ≡ false) × (smaller (list y) (list r) ≡ false)
  shown_unbeaten r p = go (which (smaller (list y) (list x)))
    where
      go :
          (smaller (list y) (list x) ≡ true) ⊎ (smaller (list y) (list x) ≡ false) →
          (smaller (list x) (list r) ≡ false) × (smaller (list y) (list r) ≡ false)
      go (inl h) = rw (p ∙ pick_true y x h) (smaller_one_way (list y) (list x) h, smaller_irreflexive (list y))
      go (inr h) = rw (p ∙ pick_false y x h) (smaller_irreflexive (list x), h)
