-- Ascending lists of which one has all of the other's numbers: the first is the second with numbers left out, so it costs
-- no more, and less if it is another. Assumes nothing.
use mathlib.Core.Path.{◌≡◌, refl, ap, ◌∙◌}
use mathlib.Core.Logic.{◌⊎◌, inl, inr, ⊎_map, ◌≢◌}
use mathlib.Core.Bool.{true, false, ◌||◌}
use mathlib.Core.List.{List, [], ◌∷◌}
use Prim.Native.Nat.{ℕ, ◌+◌, ◌≤◌, ◌<◌}
use native.Mathlib.Omega.{arith}
use lib.ListN.{length}
use borrow.Author.Tests.{not-true}
use Rattle.bits.proofs.Truth.{never, which, same, fails, not_in, not_off, or_left, or_right, or_out}
use Rattle.repair.specs.Pair.{member, ascending}
use Rattle.repair.specs.Better.{price, better}
use Rattle.repair.specs.Packing.{those}
use Rattle.repair.proofs.Orders.{better_irreflexive, better_one_way, cheaper_better}
use Rattle.repair.proofs.Sets.{member_none, member_here, member_there, member_out, those_in, those_out, lacks, lacks_fewer}
use Rattle.repair.proofs.Prices.{price_cons, price_keep, price_drop, price_more}
use Rattle.repair.proofs.Inserts.{ascending_head, ascending_tail}
use Rattle.repair.proofs.Toggling.{Parts}

-- every number of the first list is one of the second
abbrev pub Subset : List ℕ → List ℕ → Type 0
Subset p a = (x : ℕ) → member x p ≡ true → member x a ≡ true

-- the first list is the second with numbers left out
data Thinned : List ℕ → List ℕ → Type 0 where
  none : Thinned [] []
  keep : {x : ℕ} {xs ys : List ℕ} → Thinned xs ys → Thinned (x ∷ xs) (x ∷ ys)
  skip : {y : ℕ} {xs ys : List ℕ} → Thinned xs ys → Thinned xs (y ∷ ys)

thinned : (p a : List ℕ) → ascending p ≡ true → ascending a ≡ true → Subset p a → Thinned p a
thinned [] [] up ua sub = none
thinned [] (y ∷ ys) up ua sub = skip (thinned [] ys up (ascending_tail y ys ua) (λ x m. absurd (member_none x m)))
thinned (x ∷ xs) [] up ua sub = absurd (member_none x (sub x (member_here x xs)))
thinned (x ∷ xs) (y ∷ ys) up ua sub =
    go (thinned xs ys (ascending_tail x xs up) (ascending_tail y ys ua)) (thinned (x ∷ xs) ys up (ascending_tail y ys ua))
    (member_out x y ys (sub x (member_here x xs)))
  where
    -- a number of the second list other than its first
    later : (z : ℕ) → z ≢ y → (z ≡ y) ⊎ (member z ys ≡ true) → member z ys ≡ true
    later z apart (inl e) = absurd (apart e)
    later z apart (inr m) = m

    tail : x ≡ y → Subset xs ys
    tail e z m =
        let less = ascending_head x xs up z m in
        later z (omega arith) (member_out z y ys (sub z (member_there z x xs m)))

    whole : y < x → Subset (x ∷ xs) ys
    whole l z m = later z (above (member_out z x xs m)) (member_out z y ys (sub z m))
      where
        above : (z ≡ x) ⊎ (member z xs ≡ true) → z ≢ y
        above (inl e) = omega arith
        above (inr k) = let less = ascending_head x xs up z k in omega arith

    go :
        (Subset xs ys → Thinned xs ys) → (Subset (x ∷ xs) ys → Thinned (x ∷ xs) ys) →
        (x ≡ y) ⊎ (member x ys ≡ true) → Thinned (x ∷ xs) (y ∷ ys)
    go same on (inl e) = rw (← e) (keep (same (tail e)))
    go same on (inr m) = skip (on (whole (ascending_head y ys ua x m)))

thinned_shorter : {p a : List ℕ} → Thinned p a → length p ≤ length a
thinned_shorter none = omega arith
thinned_shorter (keep r) = omega (arith, thinned_shorter r)
thinned_shorter (skip r) = omega (arith, thinned_shorter r)

-- a subset has no more numbers
pub subset_shorter :
    (p a : List ℕ) → ascending p ≡ true → ascending a ≡ true → Subset p a → length p ≤ length a
subset_shorter p a up ua sub = thinned_shorter (thinned p a up ua sub)

module _ (toll : ℕ → ℕ) where
  -- what is left out is what the first list lacks
  thinned_price : {p a : List ℕ} → Thinned p a → price toll p + price toll (those (lacks p) a) ≤ price toll a
  thinned_price none = unfold those price in omega arith
  thinned_price (keep {x = x} {xs = xs} {ys = ys} r) =
      omega (
        arith,
        thinned_price r,
        price_cons toll x xs,
        price_cons toll x ys,
        price_drop toll (lacks (x ∷ xs)) x ys (not_off (member_here x xs)),
        price_more toll (lacks (x ∷ xs)) (lacks xs) (lacks_fewer (x ∷ []) xs) ys,
      )
  thinned_price (skip {y = y} {xs = xs} {ys = ys} r) = go (thinned_price r) (which (lacks xs y))
    where
      go :
          price toll xs + price toll (those (lacks xs) ys) ≤ price toll ys → (lacks xs y ≡ true) ⊎ (lacks xs y ≡ false) →
          price toll xs + price toll (those (lacks xs) (y ∷ ys)) ≤ price toll (y ∷ ys)
      go ih (inl h) = omega (arith, price_keep toll (lacks xs) y ys h, price_cons toll y ys)
      go ih (inr h) = omega (arith, price_drop toll (lacks xs) y ys h, price_cons toll y ys)

  thinned_strict :
      {p a : List ℕ} → Thinned p a → ((x : ℕ) → member x a ≡ true → 0 < toll x) → (p ≡ a) ⊎ (price toll p < price toll a)
  thinned_strict none pos = inl refl
  thinned_strict (keep {x = x} {xs = xs} {ys = ys} r) pos =
      ⊎_map (ap (λ t. x ∷ t)) (λ l. omega (arith, l, price_cons toll x xs, price_cons toll x ys))
      (thinned_strict r (λ z m. pos z (member_there z x ys m)))
  thinned_strict (skip {y = y} {xs = xs} {ys = ys} r) pos =
      inr (omega (arith, thinned_price r, price_cons toll y ys, pos y (member_here y ys)))

  module _ (p a : List ℕ) (up : ascending p ≡ true) (ua : ascending a ≡ true) (sub : Subset p a) where
    -- the price of a part and of the rest
    pub parts_price : price toll p + price toll (those (lacks p) a) ≤ price toll a
    parts_price = thinned_price (thinned p a up ua sub)

    -- a superset is never better
    pub superset_unbetter : ((x : ℕ) → member x a ≡ true → 0 < toll x) → better toll a p ≡ false
    superset_unbetter pos = go (thinned_strict (thinned p a up ua sub) pos)
      where
        go : (p ≡ a) ⊎ (price toll p < price toll a) → better toll a p ≡ false
        go (inl e) = ap (better toll a) e ∙ better_irreflexive toll a
        go (inr l) = better_one_way toll p a (cheaper_better toll p a l)

-- a part of a list and what the part lacks of it make it up
pub lacks_parts : (p a : List ℕ) → Subset p a → Parts p (those (lacks p) a) a
lacks_parts p a sub =
    record {
      whole = λ z. same (λ m. in_one z m (which (member z p))) (λ h. in_all z (or_out (member z p) _ h));
      once = λ z m. fails (λ k. never m (not-true (member z p) (those_out (lacks p) z a k).1));
    }
  where
    in_one :
        (z : ℕ) → member z a ≡ true → (member z p ≡ true) ⊎ (member z p ≡ false) →
        (member z p || member z (those (lacks p) a)) ≡ true
    in_one z m (inl h) = or_left _ h
    in_one z m (inr h) = or_right (member z p) (those_in (lacks p) z a m (not_in h))

    in_all : (z : ℕ) → (member z p ≡ true) ⊎ (member z (those (lacks p) a) ≡ true) → member z a ≡ true
    in_all z (inl h) = sub z h
    in_all z (inr h) = (those_out (lacks p) z a h).0
