-- The packing bound against any list that shares a free pair with every quad: the taken quads' free pairs are disjoint,
-- and each taken quad adds at most the price of the number that it shares with the list. Assumes nothing.
use mathlib.Core.Path.{◌≡◌, refl, ◌∙◌}
use mathlib.Core.Bool.{Bool, true, false}
use mathlib.Core.List.{List, [], ◌∷◌, ◌++◌, Memᴰ}
use Prim.Native.Nat.{ℕ, ◌+◌, ◌≤◌}
use native.Mathlib.Nat.{le_trans, add-le-add}
use native.Mathlib.Omega.{arith}
use Rattle.bits.specs.Choice.{pick}
use Rattle.bits.proofs.Truth.{or_off, or_left, not_in, not_off, pick_false}
use Rattle.graph.specs.declared.Quad.{Quad}
use Rattle.repair.specs.Pair.{member}
use Rattle.repair.specs.Better.{price}
use Rattle.repair.specs.Packing.{pairs_of, those, share, lowest, empty, stuck, packed, packing}
use Rattle.repair.proofs.Sets.{member_none, member_append, unshared, lacks, lacks_fewer}
use Rattle.repair.proofs.Prices.{price_gap, price_part, lowest_least}

-- a choice is at most what both of its parts are
pick_most : (b : Bool) (x y most : ℕ) → (b ≡ true → x ≤ most) → (b ≡ false → y ≤ most) → pick b x y ≤ most
pick_most true x y most h k = h refl
pick_most false x y most h k = k refl

module _ (n : ℕ) (free : ℕ → Bool) (xs : List ℕ) where
  -- the list has a free pair of the quad
  pub record Meets (q : Quad) : Type 0 where
    pub pair : ℕ
    pub of_quad : member pair (those free (pairs_of n q)) ≡ true
    pub of_list : member pair xs ≡ true

  -- .. of every quad
  abbrev pub MeetsAll : List Quad → Type 0
  MeetsAll qs = (q : Quad) → Memᴰ q qs → Meets q

  -- no quad is without a free pair
  pub meets_unstuck : (qs : List Quad) → MeetsAll qs → stuck n free qs ≡ false
  unfolding stuck
  meets_unstuck [] meets = refl
  meets_unstuck (q ∷ qs) meets =
      or_off (has (meets q (Memᴰ.head refl)).pair (those free (pairs_of n q)) (meets q (Memᴰ.head refl)).of_quad)
      (meets_unstuck qs (λ p m. meets p (Memᴰ.tail m)))
    where
      has : (x : ℕ) (ys : List ℕ) → member x ys ≡ true → empty ys ≡ false
      has x [] m = absurd (member_none x m)
      has x (y ∷ ys) m = unfold empty in refl

-- nothing is shared with nothing
share_none : (xs : List ℕ) → share xs [] ≡ false
unfolding share member
share_none [] = refl
share_none (x ∷ xs) = share_none xs

-- "add the lowest price of its free pairs": one quad with a free pair has this bound
pub packing_one :
    (n : ℕ) (free : ℕ → Bool) (toll : ℕ → ℕ) (q : Quad) → empty (those free (pairs_of n q)) ≡ false →
    packing n free toll (q ∷ []) ≡ lowest toll (those free (pairs_of n q))
unfolding packing packed stuck
packing_one n free toll q some =
    pick_false _ _ (or_off some refl) ∙ pick_false _ _ (share_none (those free (pairs_of n q))) ∙ omega arith

module _ (n : ℕ) (free : ℕ → Bool) (toll : ℕ → ℕ) (xs : List ℕ) where
  pub packed_bounded :
      (taken : List ℕ) (qs : List Quad) → MeetsAll n free xs qs → packed n free toll taken qs ≤ price toll (those (lacks taken) xs)
  unfolding packed
  packed_bounded taken [] meets = omega arith
  packed_bounded taken (q ∷ qs) meets =
      pick_most (share mine taken) _ _ _ (λ s. packed_bounded taken qs rest)
      (λ s. le_trans (add-le-add (lowest_least toll m.pair mine m.of_quad) (packed_bounded (mine ++ taken) qs rest)) (gap s))
    where
      mine : List ℕ
      mine = those free (pairs_of n q)

      rest : MeetsAll n free xs qs
      rest p m = meets p (Memᴰ.tail m)

      m : Meets n free xs q
      m = meets q (Memᴰ.head refl)

      gap :
          share mine taken ≡ false →
          toll m.pair + price toll (those (lacks (mine ++ taken)) xs) ≤ price toll (those (lacks taken) xs)
      gap s =
          price_gap toll (lacks (mine ++ taken)) (lacks taken) (lacks_fewer mine taken) m.pair xs m.of_list
          (not_off (member_append m.pair mine taken ∙ or_left _ m.of_quad))
          (not_in (unshared m.pair mine taken s m.of_quad))

  -- the bound never exceeds the price of a list that has a free pair of every quad
  pub packing_bounded : (qs : List Quad) → MeetsAll n free xs qs → packing n free toll qs ≤ price toll xs
  packing_bounded qs meets =
      omega (arith, exact, packed_bounded [] qs meets, price_part toll (lacks []) xs)
    where
      exact : packing n free toll qs ≡ packed n free toll [] qs
      exact = unfold packing in pick_false _ _ (meets_unstuck n free xs qs meets)
