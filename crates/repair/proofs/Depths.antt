-- The pairs that may be changed, listed: every one is among them, and the lowest of their prices is at least 1 and at most
-- each. Assumes nothing.
use mathlib.Core.Path.{◌≡◌, refl, ap, ◌∙◌}
use mathlib.Core.Logic.{◌⊎◌, inl, inr}
use mathlib.Core.Bool.{true, false, ◌||◌}
use mathlib.Core.List.{List, [], ◌∷◌, ◌++◌}
use Prim.Native.Nat.{ℕ, zero, suc, ◌*◌, ◌≤◌, ◌<◌}
use native.Mathlib.Omega.{arith}
use Rattle.bits.proofs.Truth.{never, or_left, or_right}
use Rattle.graph.specs.Each.{each}
use Rattle.graph.proofs.Listing.{below_suc}
use Rattle.repair.specs.Pair.{changeable, member}
use Rattle.repair.specs.Packing.{lowest, empty}
use Rattle.repair.specs.Depth.{numbers, changeables}
use Rattle.repair.proofs.Sets.{member_here, member_there, member_append, those_in, those_out}
use Rattle.repair.proofs.Prices.{lowest_more}
use Rattle.repair.proofs.Numbers.{changeable_below}

pub numbers_more : (m : ℕ) → numbers (suc m) ≡ numbers m ++ m ∷ []
unfolding numbers each
numbers_more m = refl

-- every number below m is listed
pub numbers_in : (x m : ℕ) → x < m → member x (numbers m) ≡ true
numbers_in x zero l = absurd (omega arith)
numbers_in x (suc m) l =
    ap (member x) (numbers_more m) ∙ member_append x (numbers m) (m ∷ []) ∙ go (numbers_in x m) (below_suc l)
  where
    go : (x < m → member x (numbers m) ≡ true) → (x ≡ m) ⊎ (x < m) → (member x (numbers m) || member x (m ∷ [])) ≡ true
    go ih (inl e) = or_right (member x (numbers m)) (ap (λ z. member z (m ∷ [])) e ∙ member_here m [])
    go ih (inr k) = or_left _ (ih k)

module _ (n : ℕ) (toll : ℕ → ℕ) where
  pub changeables_in : (x : ℕ) → changeable n toll x ≡ true → member x (changeables n toll) ≡ true
  unfolding changeables
  changeables_in x h =
      those_in (changeable n toll) x (numbers (n * n)) (numbers_in x (n * n) (changeable_below n toll x h)) h

  pub changeables_out : (x : ℕ) → member x (changeables n toll) ≡ true → changeable n toll x ≡ true
  unfolding changeables
  changeables_out x m = (those_out (changeable n toll) x (numbers (n * n)) m).1

-- a lowest price is the price of one of the list
pub lowest_positive :
    (toll : ℕ → ℕ) (xs : List ℕ) → empty xs ≡ false → ((x : ℕ) → member x xs ≡ true → 1 ≤ toll x) → 1 ≤ lowest toll xs
lowest_positive toll [] h pos = never {b = empty []} (unfold empty in refl) h
lowest_positive toll (x ∷ []) h pos = unfold lowest in pos x (member_here x [])
lowest_positive toll (x ∷ y ∷ ys) h pos =
    omega (
      arith,
      lowest_more toll x y ys,
      pos x (member_here x (y ∷ ys)),
      lowest_positive toll (y ∷ ys) (unfold empty in refl) (λ z m. pos z (member_there z x (y ∷ ys) m)),
    )
