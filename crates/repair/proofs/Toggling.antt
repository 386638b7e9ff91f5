-- A graph with pairs toggled: it is a graph, it depends on the set of pairs alone, parts may be toggled one after the
-- other, and one more pair is one more flip. By cases on whether a pair of vertices is hit. Assumes nothing.
use mathlib.Core.Path.{◌≡◌, refl, sym, ap, ap₂, ◌∙◌, fun_ext}
use mathlib.Core.Logic.{◌⊎◌, inl, inr, ⊎_map, ◌≢◌}
use mathlib.Core.Bool.{Bool, true, false, not, ◌&&◌, ◌||◌}
use mathlib.Core.List.{List}
use Prim.Native.Nat.{ℕ, ◌<◌}
use native.Mathlib.Omega.{arith}
use lib.Dec.{ltb, eqb}
use borrow.Author.Tests.{ltb-true, lt-ltb, eqb-true, eqb-false, eq-eqb, ne_eqb, not-true}
use Rattle.bits.specs.Choice.{pick}
use Rattle.bits.proofs.Truth.{never, which, same, fails, and_in, and_left, and_right, not_in, or_left, or_right, or_out, pick_true, pick_false}
use Rattle.graph.specs.Graph.{IsGraph, within, flipped}
use Rattle.graph.specs.Graph as graph
use Rattle.graph.proofs.Flipping.{pair_out, flipped_pair, flipped_other}
use Rattle.repair.specs.Pair.{pair_of, member}
use Rattle.repair.specs.Repair.{toggled}
use Rattle.repair.specs.Tree.{insert}
use Rattle.repair.proofs.Numbers.{pair_mirrored, pair_tells, pair_told}
use Rattle.repair.proofs.Inserts.{insert_member}

-- two lists without a common member that together are a third
pub record Parts (p x a : List ℕ) : Type 0 where
  pub whole : (z : ℕ) → member z a ≡ (member z p || member z x)
  pub once : (z : ℕ) → member z p ≡ true → member z x ≡ false

module _ (n : ℕ) where
  -- the pair of i and j is one of the list
  abbrev pub hit : List ℕ → ℕ → ℕ → Bool
  hit r = within n (λ x y. not (eqb x y) && member (pair_of n x y) r)

  -- two different vertices
  pub record Two (i j : ℕ) : Type 0 where
    pub left : i < n
    pub right : j < n
    pub apart : i ≢ j

  pub hit_two : (r : List ℕ) (i j : ℕ) → hit r i j ≡ true → Two i j
  hit_two r i j h =
      let ends = and_left (ltb i n && ltb j n) _ h in
      record {
        left = ltb-true i n (and_left (ltb i n) (ltb j n) ends);
        right = ltb-true j n (and_right (ltb i n) (ltb j n) ends);
        apart = eqb-false i j (not-true (eqb i j) (and_left (not (eqb i j)) _ (and_right (ltb i n && ltb j n) _ h)));
      }

  pub hit_member : (r : List ℕ) (i j : ℕ) → hit r i j ≡ true → member (pair_of n i j) r ≡ true
  hit_member r i j h = and_right (not (eqb i j)) _ (and_right (ltb i n && ltb j n) _ h)

  pub hit_in : (r : List ℕ) (i j : ℕ) → Two i j → member (pair_of n i j) r ≡ true → hit r i j ≡ true
  hit_in r i j t m =
      and_in (and_in (lt-ltb i n t.left) (lt-ltb j n t.right)) (and_in (not_in (ne_eqb i j t.apart)) m)

  turned : (i j : ℕ) → Two i j → Two j i
  turned i j t = record { left = t.right; right = t.left; apart = λ e. t.apart (sym e) }

  hit_turns : (r : List ℕ) (i j : ℕ) → hit r i j ≡ true → hit r j i ≡ true
  hit_turns r i j h =
      hit_in r j i (turned i j (hit_two r i j h)) (ap (λ p. member p r) (pair_mirrored n j i) ∙ hit_member r i j h)

  module _ (e : ℕ → ℕ → Bool) where
    pub toggled_hit : (r : List ℕ) (i j : ℕ) → hit r i j ≡ true → toggled n e r i j ≡ not (e i j)
    unfolding toggled
    toggled_hit r i j h = pick_true _ _ h

    pub toggled_missed : (r : List ℕ) (i j : ℕ) → hit r i j ≡ false → toggled n e r i j ≡ e i j
    unfolding toggled
    toggled_missed r i j h = pick_false _ _ h

    -- a pair that is not listed stays
    pub toggled_stays : (r : List ℕ) (i j : ℕ) → member (pair_of n i j) r ≡ false → toggled n e r i j ≡ e i j
    toggled_stays r i j m = toggled_missed r i j (fails (λ h. never (hit_member r i j h) m))

    -- two vertices that are hit together look alike
    toggled_alike :
        (r s : List ℕ) (i j k l : ℕ) → hit r i j ≡ hit s k l → e i j ≡ e k l → toggled n e r i j ≡ toggled n e s k l
    unfolding toggled
    toggled_alike r s i j k l p q = ap₂ (λ t u. pick t (not u) u) p q

    -- nothing but the set of pairs counts
    pub toggled_set :
        (r s : List ℕ) → ((x : ℕ) → member x r ≡ member x s) → toggled n e r ≡ toggled n e s
    toggled_set r s alike =
        fun_ext (λ i. fun_ext (λ j. toggled_alike r s i j i j (ap (λ t. within n (λ x y. not (eqb x y) && t) i j) (alike (pair_of n i j))) refl))

    pub toggled_graph : IsGraph n e → (r : List ℕ) → IsGraph n (toggled n e r)
    toggled_graph g r =
        record {
          inside = λ i j h. go i j h (which (hit r i j));
          loopless = λ i. toggled_missed r i i (fails (λ h. (hit_two r i i h).apart refl)) ∙ g.loopless i;
          mirrored = λ i j. toggled_alike r r i j j i (same (hit_turns r i j) (hit_turns r j i)) (g.mirrored i j);
        }
      where
        go :
            (i j : ℕ) → toggled n e r i j ≡ true → (hit r i j ≡ true) ⊎ (hit r i j ≡ false) → (i < n) × (j < n)
        go i j h (inl k) = ((hit_two r i j k).left, (hit_two r i j k).right)
        go i j h (inr k) = g.inside i j (sym (toggled_missed r i j k) ∙ h)

module _ (n : ℕ) (e : ℕ → ℕ → Bool) where
  -- one part toggled and then the other is the whole toggled
  pub toggled_parts : (p x a : List ℕ) → Parts p x a → toggled n (toggled n e p) x ≡ toggled n e a
  toggled_parts p x a parts = fun_ext (λ i. fun_ext (λ j. go i j (which (hit n p i j)) (which (hit n x i j))))
    where
      whole : (i j : ℕ) → hit n a i j ≡ true → (hit n p i j ≡ true) ⊎ (hit n x i j ≡ true)
      whole i j h =
          ⊎_map (hit_in n p i j (hit_two n a i j h)) (hit_in n x i j (hit_two n a i j h))
          (or_out (member (pair_of n i j) p) _ (sym (parts.whole (pair_of n i j)) ∙ hit_member n a i j h))

      none :
          (i j : ℕ) → hit n p i j ≡ false → hit n x i j ≡ false → (hit n p i j ≡ true) ⊎ (hit n x i j ≡ true) → ⊥
      none i j s t (inl h) = never h s
      none i j s t (inr h) = never h t

      go :
          (i j : ℕ) → (hit n p i j ≡ true) ⊎ (hit n p i j ≡ false) → (hit n x i j ≡ true) ⊎ (hit n x i j ≡ false) →
          toggled n (toggled n e p) x i j ≡ toggled n e a i j
      go i j (inl s) (inl t) = never (hit_member n x i j t) (parts.once (pair_of n i j) (hit_member n p i j s))
      go i j (inl s) (inr t) =
          toggled_missed n (toggled n e p) x i j t ∙ toggled_hit n e p i j s ∙
          sym (toggled_hit n e a i j (hit_in n a i j (hit_two n p i j s) (parts.whole (pair_of n i j) ∙ or_left (member (pair_of n i j) x) (hit_member n p i j s))))
      go i j (inr s) (inl t) =
          toggled_hit n (toggled n e p) x i j t ∙ ap not (toggled_missed n e p i j s) ∙
          sym (toggled_hit n e a i j (hit_in n a i j (hit_two n x i j t) (parts.whole (pair_of n i j) ∙ or_right (member (pair_of n i j) p) (hit_member n x i j t))))
      go i j (inr s) (inr t) =
          toggled_missed n (toggled n e p) x i j t ∙ toggled_missed n e p i j s ∙
          sym (toggled_missed n e a i j (fails (λ h. none i j s t (whole i j h))))

  module _ (x y : ℕ) (two : Two n x y) (r : List ℕ) (fresh : member (pair_of n x y) r ≡ false) where
    -- the pair x, y itself
    hit_fresh : (i j : ℕ) → graph.is_pair x y i j ≡ true → hit n (insert (pair_of n x y) r) i j ≡ true
    hit_fresh i j h =
        hit_in n (insert (pair_of n x y) r) i j (ends (pair_out x y i j h))
        (insert_member (pair_of n i j) (pair_of n x y) r ∙ or_left _ (eq-eqb _ _ (pair_told n x y i j h)))
      where
        ends : ((i ≡ x) × (j ≡ y)) ⊎ ((i ≡ y) × (j ≡ x)) → Two n i j
        ends (inl k) = omega arith
        ends (inr k) = omega arith

    missed_fresh : (i j : ℕ) → graph.is_pair x y i j ≡ true → hit n r i j ≡ false
    missed_fresh i j h =
        fails (λ k. never (ap (λ p. member p r) (sym (pair_told n x y i j h)) ∙ hit_member n r i j k) fresh)

    -- any other pair
    hit_others : (i j : ℕ) → graph.is_pair x y i j ≡ false → hit n (insert (pair_of n x y) r) i j ≡ hit n r i j
    hit_others i j h =
        same
        (λ k.
        out k (hit_two n (insert (pair_of n x y) r) i j k)
        (or_out (eqb (pair_of n i j) (pair_of n x y)) _ (sym (insert_member (pair_of n i j) (pair_of n x y) r) ∙ hit_member n (insert (pair_of n x y) r) i j k)))
        (λ k.
        hit_in n (insert (pair_of n x y) r) i j (hit_two n r i j k)
        (insert_member (pair_of n i j) (pair_of n x y) r ∙
        or_right (eqb (pair_of n i j) (pair_of n x y)) (hit_member n r i j k)))
      where
        out :
            hit n (insert (pair_of n x y) r) i j ≡ true → Two n i j →
            (eqb (pair_of n i j) (pair_of n x y) ≡ true) ⊎ (member (pair_of n i j) r ≡ true) → hit n r i j ≡ true
        out k t (inl s) =
            never
            (pair_tells n x y i j two.left two.right t.left t.right (sym (eqb-true _ _ s)))
            h
        out k t (inr s) = hit_in n r i j t s

    -- one more pair in the list is one more flip
    pub toggled_insert : toggled n e (insert (pair_of n x y) r) ≡ flipped x y (toggled n e r)
    toggled_insert = fun_ext (λ i. fun_ext (λ j. go i j (which (graph.is_pair x y i j))))
      where
        go :
            (i j : ℕ) → (graph.is_pair x y i j ≡ true) ⊎ (graph.is_pair x y i j ≡ false) →
            toggled n e (insert (pair_of n x y) r) i j ≡ flipped x y (toggled n e r) i j
        go i j (inl h) =
            toggled_hit n e (insert (pair_of n x y) r) i j (hit_fresh i j h) ∙
            ap not (sym (toggled_missed n e r i j (missed_fresh i j h))) ∙ sym (flipped_pair x y (toggled n e r) i j h)
        go i j (inr h) =
            toggled_alike n e (insert (pair_of n x y) r) r i j i j (hit_others i j h) refl ∙
            sym (flipped_other x y (toggled n e r) i j h)
