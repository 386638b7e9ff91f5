-- Lists read as sets: what is a member of a list made of others, and what holds of every member. Assumes nothing.
use mathlib.Core.Path.{◌≡◌, refl, sym, ap, ◌∙◌}
use mathlib.Core.Logic.{◌⊎◌, inl, inr, ⊎_elim}
use mathlib.Core.Bool.{Bool, true, false, not, ◌||◌}
use mathlib.Core.List.{List, [], ◌∷◌, ◌++◌}
use Prim.Native.Nat.{ℕ}
use lib.Dec.{eqb}
use borrow.Author.Tests.{eqb-true, eq-eqb, not-true}
use Rattle.bits.specs.Choice.{pick}
use Rattle.bits.proofs.Truth.{never, which, fails, and_in, and_left, and_right, or_left, or_right, or_out, not_in, or_off_right}
use Rattle.graph.specs.Each.{only}
use Rattle.repair.specs.Pair.{member, all}
use Rattle.repair.specs.Packing.{those, share}

pub member_here : (x : ℕ) (xs : List ℕ) → member x (x ∷ xs) ≡ true
unfolding member
member_here x xs = or_left _ (eq-eqb x x refl)

pub member_there : (x y : ℕ) (ys : List ℕ) → member x ys ≡ true → member x (y ∷ ys) ≡ true
unfolding member
member_there x y ys h = or_right (eqb x y) h

pub member_out : (x y : ℕ) (ys : List ℕ) → member x (y ∷ ys) ≡ true → (x ≡ y) ⊎ (member x ys ≡ true)
unfolding member
member_out x y ys h = ⊎_elim (λ e. inl (eqb-true x y e)) inr (or_out (eqb x y) _ h)

pub member_none : (x : ℕ) → member x [] ≡ true → ⊥
unfolding member
member_none x h = never h refl

-- what is a member is not what is no member
pub member_apart : (x y : ℕ) (xs : List ℕ) → member x xs ≡ true → member y xs ≡ false → x ≡ y → ⊥
member_apart x y xs h k e = never (ap (λ z. member z xs) (sym e) ∙ h) k

-- a member of two lists joined is a member of one of them
pub member_append : (x : ℕ) (xs ys : List ℕ) → member x (xs ++ ys) ≡ (member x xs || member x ys)
unfolding member
member_append x [] ys = refl
member_append x (y ∷ xs) ys = ap (λ t. eqb x y || t) (member_append x xs ys) ∙ assoc (eqb x y)
  where
    assoc : (a : Bool) → (a || (member x xs || member x ys)) ≡ ((a || member x xs) || member x ys)
    assoc true = refl
    assoc false = refl

module _ (f : ℕ → Bool) where
  pub all_at : (x : ℕ) (xs : List ℕ) → all f xs ≡ true → member x xs ≡ true → f x ≡ true
  all_at x [] h m = absurd (member_none x m)
  all_at x (y ∷ ys) h m = go (all_at x ys) (member_out x y ys m)
    where
      go : (all f ys ≡ true → member x ys ≡ true → f x ≡ true) → (x ≡ y) ⊎ (member x ys ≡ true) → f x ≡ true
      go ih (inl e) = ap f e ∙ and_left (f y) (all f ys) (unfold all in h)
      go ih (inr k) = ih (and_right (f y) (all f ys) (unfold all in h)) k

  pub all_in : (xs : List ℕ) → ((x : ℕ) → member x xs ≡ true → f x ≡ true) → all f xs ≡ true
  unfolding all
  all_in [] h = refl
  all_in (y ∷ ys) h = and_in (h y (member_here y ys)) (all_in ys (λ x m. h x (member_there x y ys m)))

  pub those_keep : (x : ℕ) (xs : List ℕ) → f x ≡ true → those f (x ∷ xs) ≡ x ∷ those f xs
  unfolding those only
  those_keep x xs h = ap (λ t. pick t (x ∷ []) [] ++ those f xs) h

  pub those_drop : (x : ℕ) (xs : List ℕ) → f x ≡ false → those f (x ∷ xs) ≡ those f xs
  unfolding those only
  those_drop x xs h = ap (λ t. pick t (x ∷ []) [] ++ those f xs) h

  pub those_in : (x : ℕ) (xs : List ℕ) → member x xs ≡ true → f x ≡ true → member x (those f xs) ≡ true
  those_in x [] m h = absurd (member_none x m)
  those_in x (y ∷ ys) m h = go (those_in x ys) (which (f y)) (member_out x y ys m)
    where
      go :
          (member x ys ≡ true → f x ≡ true → member x (those f ys) ≡ true) → (f y ≡ true) ⊎ (f y ≡ false) →
          (x ≡ y) ⊎ (member x ys ≡ true) → member x (those f (y ∷ ys)) ≡ true
      go ih (inl t) (inl e) =
          ap (λ z. member z (those f (y ∷ ys))) e ∙ ap (member y) (those_keep y ys t) ∙ member_here y (those f ys)
      go ih (inl t) (inr k) = ap (member x) (those_keep y ys t) ∙ member_there x y (those f ys) (ih k h)
      go ih (inr t) (inl e) = never (ap f (sym e) ∙ h) t
      go ih (inr t) (inr k) = ap (member x) (those_drop y ys t) ∙ ih k h

  pub those_out : (x : ℕ) (xs : List ℕ) → member x (those f xs) ≡ true → (member x xs ≡ true) × (f x ≡ true)
  those_out x [] m = absurd (member_none x (unfold those in m))
  those_out x (y ∷ ys) m = go (those_out x ys) (which (f y))
    where
      late : (member x ys ≡ true) × (f x ≡ true) → (member x (y ∷ ys) ≡ true) × (f x ≡ true)
      late k = (member_there x y ys k.0, k.1)

      early : (member x (those f ys) ≡ true → (member x ys ≡ true) × (f x ≡ true)) → f y ≡ true →
          (x ≡ y) ⊎ (member x (those f ys) ≡ true) → (member x (y ∷ ys) ≡ true) × (f x ≡ true)
      early ih t (inl e) = (ap (λ z. member z (y ∷ ys)) e ∙ member_here y ys, ap f e ∙ t)
      early ih t (inr k) = late (ih k)

      go : (member x (those f ys) ≡ true → (member x ys ≡ true) × (f x ≡ true)) → (f y ≡ true) ⊎ (f y ≡ false) →
          (member x (y ∷ ys) ≡ true) × (f x ≡ true)
      go ih (inl t) = early ih t (member_out x y (those f ys) (rw (those_keep y ys t) at m))
      go ih (inr t) = late (ih (rw (those_drop y ys t) at m))

-- what two lists share is a member of both
pub share_in : (x : ℕ) (xs ys : List ℕ) → member x xs ≡ true → member x ys ≡ true → share xs ys ≡ true
unfolding share
share_in x [] ys m k = absurd (member_none x m)
share_in x (z ∷ xs) ys m k = go (share_in x xs ys) (member_out x z xs m)
  where
    go :
        (member x xs ≡ true → member x ys ≡ true → share xs ys ≡ true) → (x ≡ z) ⊎ (member x xs ≡ true) →
        (member z ys || share xs ys) ≡ true
    go ih (inl e) = or_left _ (ap (λ w. member w ys) (sym e) ∙ k)
    go ih (inr h) = or_right (member z ys) (ih h k)

pub unshared : (x : ℕ) (xs ys : List ℕ) → share xs ys ≡ false → member x xs ≡ true → member x ys ≡ false
unshared x xs ys h m = fails (λ k. never (share_in x xs ys m k) h)

pub share_out : (xs ys : List ℕ) → share xs ys ≡ true → (x : ℕ) × (member x xs ≡ true) × (member x ys ≡ true)
share_out [] ys h = never h (unfold share in refl)
share_out (z ∷ xs) ys h = go (share_out xs ys) (or_out (member z ys) (share xs ys) (unfold share in h))
  where
    Both : Type 0
    Both = (x : ℕ) × (member x (z ∷ xs) ≡ true) × (member x ys ≡ true)

    go :
        (share xs ys ≡ true → (x : ℕ) × (member x xs ≡ true) × (member x ys ≡ true)) →
        (member z ys ≡ true) ⊎ (share xs ys ≡ true) → (x : ℕ) × (member x (z ∷ xs) ≡ true) × (member x ys ≡ true)
    go ih (inl k) = (z, member_here z xs, k)
    go ih (inr k) = let (x, m, l) = ih k in (x, member_there x z xs m, l)

-- the numbers that are not in a list, and those not in a longer one
abbrev pub lacks : List ℕ → ℕ → Bool
lacks xs x = not (member x xs)

pub lacks_fewer : (xs ys : List ℕ) (x : ℕ) → lacks (xs ++ ys) x ≡ true → lacks ys x ≡ true
lacks_fewer xs ys x h =
    not_in (or_off_right (member x xs) (member x ys) (sym (member_append x xs ys) ∙ not-true _ h))
