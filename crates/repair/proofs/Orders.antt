-- The order on lists and the order on repairs are strict and total, so that the best is unique; in the second the price
-- decides first. By induction on the lists: the first number decides, or it is the same and the rest decides.
-- Assumes nothing.
use mathlib.Core.Path.{◌≡◌, refl, sym, ap₂, ◌∙◌}
use mathlib.Core.Logic.{◌⊎◌, inl, inr, ⊎_elim}
use mathlib.Core.Bool.{Bool, true, false, ◌&&◌}
use mathlib.Core.List.{List, [], ◌∷◌, ◌++◌}
use Prim.Native.Nat.{ℕ, ◌≤◌, ◌<◌}
use native.Mathlib.Omega.{arith}
use lib.Dec.{ltb, eqb}
use borrow.Author.Tests.{ltb-true, ltb-false, eqb-true, lt-ltb, eq-eqb}
use Rattle.bits.proofs.Truth.{
  never,
  same,
  fails,
  and_in,
  and_left,
  and_right,
  or_left,
  or_right,
  or_out,
}
use Rattle.repair.specs.Better.{smaller, price, better}

-- the first number of one list is below the other's, or the same and the rest is smaller
abbrev pub Leads : ℕ → List ℕ → ℕ → List ℕ → Type 0
Leads x xs y ys = (x < y) ⊎ ((x ≡ y) × (smaller xs ys ≡ true))

pub leads : (x : ℕ) (xs : List ℕ) (y : ℕ) (ys : List ℕ) → smaller (x ∷ xs) (y ∷ ys) ≡ true → Leads x xs y ys
unfolding smaller
leads x xs y ys h =
    ⊎_elim (λ l. inl (ltb-true x y l))
    (λ e. inr (eqb-true x y (and_left (eqb x y) _ e), and_right (eqb x y) _ e))
    (or_out (ltb x y) (eqb x y && smaller xs ys) h)

pub leading : (x : ℕ) (xs : List ℕ) (y : ℕ) (ys : List ℕ) → Leads x xs y ys → smaller (x ∷ xs) (y ∷ ys) ≡ true
unfolding smaller
leading x xs y ys (inl l) = or_left _ (lt-ltb x y l)
leading x xs y ys (inr h) = or_right (ltb x y) (and_in (eq-eqb x y h.0) h.1)

-- the same first number decides nothing
pub smaller_level :
    (x : ℕ) (xs : List ℕ) (y : ℕ) (ys : List ℕ) → x ≡ y → smaller (x ∷ xs) (y ∷ ys) ≡ smaller xs ys
smaller_level x xs y ys e = same (λ h. go (leads x xs y ys h)) (λ h. leading x xs y ys (inr (e, h)))
  where
    go : Leads x xs y ys → smaller xs ys ≡ true
    go (inl l) = absurd (omega arith)
    go (inr h) = h.1

-- no list is smaller than itself
pub smaller_irreflexive : (xs : List ℕ) → smaller xs xs ≡ false
smaller_irreflexive [] = unfold smaller in refl
smaller_irreflexive (x ∷ xs) = fails (λ h. go (smaller_irreflexive xs) (leads x xs x xs h))
  where
    go : smaller xs xs ≡ false → Leads x xs x xs → ⊥
    go ih (inl l) = omega arith
    go ih (inr h) = never h.1 ih

pub smaller_transitive :
    (xs ys zs : List ℕ) → smaller xs ys ≡ true → smaller ys zs ≡ true → smaller xs zs ≡ true
smaller_transitive xs [] zs p q = unfold smaller in never p refl
smaller_transitive xs (y ∷ ys) [] p q = unfold smaller in never q refl
smaller_transitive [] (y ∷ ys) (z ∷ zs) p q = unfold smaller in refl
smaller_transitive (x ∷ xs) (y ∷ ys) (z ∷ zs) p q =
    leading x xs z zs (go (smaller_transitive xs ys zs) (leads x xs y ys p) (leads y ys z zs q))
  where
    go :
        (smaller xs ys ≡ true → smaller ys zs ≡ true → smaller xs zs ≡ true) →
        Leads x xs y ys → Leads y ys z zs → Leads x xs z zs
    go ih (inl l) (inl m) = inl (omega arith)
    go ih (inl l) (inr m) = inl (omega arith)
    go ih (inr l) (inl m) = inl (omega arith)
    go ih (inr l) (inr m) = inr (l.0 ∙ m.0, ih l.1 m.1)

-- of two lists neither of which is smaller, both are the same
pub smaller_total : (xs ys : List ℕ) → smaller xs ys ≡ false → smaller ys xs ≡ false → xs ≡ ys
smaller_total [] [] p q = refl
smaller_total [] (y ∷ ys) p q = unfold smaller in never refl p
smaller_total (x ∷ xs) [] p q = unfold smaller in never refl q
smaller_total (x ∷ xs) (y ∷ ys) p q =
    ap₂ ◌∷◌ level
    (smaller_total xs ys
    (fails (λ h. never (leading x xs y ys (inr (level, h))) p))
    (fails (λ h. never (leading y ys x xs (inr (sym level, h))) q)))
  where
    not_below : x < y → ⊥
    not_below l = never (leading x xs y ys (inl l)) p

    not_above : y < x → ⊥
    not_above l = never (leading y ys x xs (inl l)) q

    level : x ≡ y
    level = go (ltb x y) (ltb y x) refl refl
      where
        go : (s t : Bool) → ltb x y ≡ s → ltb y x ≡ t → x ≡ y
        go true t a b = absurd (not_below (ltb-true x y a))
        go false true a b = absurd (not_above (ltb-true y x b))
        go false false a b = omega (arith, ltb-false)

-- of two lists at most one is smaller
pub smaller_one_way : (xs ys : List ℕ) → smaller xs ys ≡ true → smaller ys xs ≡ false
smaller_one_way xs ys p = fails (λ q. never (smaller_transitive xs ys xs p q) (smaller_irreflexive xs))

-- "a list that is the beginning of the other is the smaller"
pub beginning_smaller : (xs : List ℕ) (y : ℕ) (ys : List ℕ) → smaller xs (xs ++ y ∷ ys) ≡ true
beginning_smaller [] y ys = unfold smaller in refl
beginning_smaller (x ∷ xs) y ys = leading x xs x (xs ++ y ∷ ys) (inr (refl, beginning_smaller xs y ys))

-- "smaller at the first difference"
pub first_difference :
    (zs : List ℕ) (x : ℕ) (xs : List ℕ) (y : ℕ) (ys : List ℕ) → x < y → smaller (zs ++ x ∷ xs) (zs ++ y ∷ ys) ≡ true
first_difference [] x xs y ys l = leading x xs y ys (inl l)
first_difference (z ∷ zs) x xs y ys l =
    leading z (zs ++ x ∷ xs) z (zs ++ y ∷ ys) (inr (refl, first_difference zs x xs y ys l))

module _ (toll : ℕ → ℕ) where
  pub better_irreflexive : (a : List ℕ) → better toll a a ≡ false
  unfolding better
  better_irreflexive a = smaller_irreflexive (price toll a ∷ a)

  pub better_transitive :
      (a b c : List ℕ) → better toll a b ≡ true → better toll b c ≡ true → better toll a c ≡ true
  unfolding better
  better_transitive a b c = smaller_transitive (price toll a ∷ a) (price toll b ∷ b) (price toll c ∷ c)

  -- two repairs neither of which is better are the same: the best is unique
  pub better_total : (a b : List ℕ) → better toll a b ≡ false → better toll b a ≡ false → a ≡ b
  unfolding better
  better_total a b p q =
      let keys : price toll a ∷ a ≡ price toll b ∷ b = smaller_total (price toll a ∷ a) (price toll b ∷ b) p q in
      cc

  pub better_one_way : (a b : List ℕ) → better toll a b ≡ true → better toll b a ≡ false
  unfolding better
  better_one_way a b = smaller_one_way (price toll a ∷ a) (price toll b ∷ b)

  -- "lowest price": the price decides first
  pub cheaper_better : (a b : List ℕ) → price toll a < price toll b → better toll a b ≡ true
  unfolding better
  cheaper_better a b l = leading (price toll a) a (price toll b) b (inl l)

  pub better_no_dearer : (a b : List ℕ) → better toll a b ≡ true → price toll a ≤ price toll b
  unfolding better
  better_no_dearer a b h = go (leads (price toll a) a (price toll b) b h)
    where
      go : Leads (price toll a) a (price toll b) b → price toll a ≤ price toll b
      go (inl l) = omega arith
      go (inr e) = omega arith

  -- "among equals, the one whose .. list .. is smaller"
  pub better_of_equals : (a b : List ℕ) → price toll a ≡ price toll b → better toll a b ≡ smaller a b
  unfolding better
  better_of_equals a b e = smaller_level (price toll a) a (price toll b) b e
