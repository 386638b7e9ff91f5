-- The better of two lists: the price, then the tie rule. Assumes nothing.
use Rattle.std.specs.Prelude.{ℕ, zero, ◌+◌, Bool, true, false, ◌&&◌, ◌||◌, List, [], ◌∷◌, ltb, eqb}
use Rattle.bits.specs.Choice.{pick}

-- "smaller at the first difference"; "a list that is the beginning of the other is the smaller"
unfoldable pub smaller : List ℕ → List ℕ → Bool
smaller xs [] = false
smaller [] (y ∷ ys) = true
smaller (x ∷ xs) (y ∷ ys) = ltb x y || (eqb x y && smaller xs ys)

-- the price of a list of pair numbers, at the prices by number
unfoldable pub price : (ℕ → ℕ) → List ℕ → ℕ
price toll [] = zero
price toll (x ∷ xs) = toll x + price toll xs

-- "The one returned has the lowest price; among equals, the one whose ascending list of pair numbers is smaller"
unfoldable pub better : (ℕ → ℕ) → List ℕ → List ℕ → Bool
better toll a b = smaller (price toll a ∷ a) (price toll b ∷ b)

-- "the caller's own list": the second where the test passes, else the first
abbrev pub shown {ℓ} : {A : Type ℓ} → Bool → A → A → A
shown secondIsBetter first second = pick secondIsBetter second first
