-- The numbers that pass a test, listed: ascending, as many as are counted, and at most so dear. Assumes nothing.
use mathlib.Core.Path.{◌≡◌, refl, sym, ap, ◌∙◌}
use mathlib.Core.Logic.{◌⊎◌, inl, inr}
use mathlib.Core.Bool.{Bool, true, false}
use mathlib.Core.List.{List, [], ◌∷◌, ◌++◌}
use Prim.Native.Nat.{ℕ, zero, suc, ◌+◌, ◌*◌, ◌≤◌, ◌<◌}
use native.Mathlib.Nat.{mul-suc}
use native.Mathlib.Omega.{arith}
use lib.ListN.{length, length-append}
use Rattle.bits.specs.Choice.{count}
use Rattle.bits.proofs.Truth.{which, or_out}
use Rattle.graph.specs.Each.{each}
use Rattle.repair.specs.Pair.{member, ascending, all}
use Rattle.repair.specs.Better.{price}
use Rattle.repair.specs.Packing.{those}
use Rattle.repair.specs.Depth.{numbers}
use Rattle.repair.proofs.Sets.{member_none, member_here, member_there, member_out, member_append, those_keep, those_drop, those_out}
use Rattle.repair.proofs.Prices.{price_cons}
use Rattle.repair.proofs.Inserts.{ascending_head, ascending_tail, ascending_cons}
use Rattle.repair.proofs.Counts.{count_more, count_same}
use Rattle.repair.proofs.Depths.{numbers_more}

-- a greater number behind an ascending list
ascending_behind :
    (xs : List ℕ) (m : ℕ) → ascending xs ≡ true → ((y : ℕ) → member y xs ≡ true → y < m) → ascending (xs ++ m ∷ []) ≡ true
ascending_behind [] m a less = unfold ascending all in refl
ascending_behind (x ∷ xs) m a less =
    ascending_cons x (xs ++ m ∷ [])
    (λ y k. later y (or_out (member y xs) _ (sym (member_append y xs (m ∷ [])) ∙ k)))
    (ascending_behind xs m (ascending_tail x xs a) (λ y k. less y (member_there y x xs k)))
  where
    last : (y : ℕ) → (y ≡ m) ⊎ (member y [] ≡ true) → x < y
    last y (inl e) = omega (arith, less x (member_here x xs))
    last y (inr k) = absurd (member_none y k)

    later : (y : ℕ) → (member y xs ≡ true) ⊎ (member y (m ∷ []) ≡ true) → x < y
    later y (inl k) = ascending_head x xs a y k
    later y (inr k) = last y (member_out y m [] k)

pub numbers_out : (x m : ℕ) → member x (numbers m) ≡ true → x < m
numbers_out x zero h = absurd (member_none x (unfold numbers each in h))
numbers_out x (suc m) h =
    go (numbers_out x m)
    (or_out (member x (numbers m)) _
    (sym (member_append x (numbers m) (m ∷ [])) ∙ ap (member x) (sym (numbers_more m)) ∙ h))
  where
    last : (x ≡ m) ⊎ (member x [] ≡ true) → x < suc m
    last (inl e) = omega arith
    last (inr k) = absurd (member_none x k)

    go : (member x (numbers m) ≡ true → x < m) → (member x (numbers m) ≡ true) ⊎ (member x (m ∷ []) ≡ true) → x < suc m
    go ih (inl k) = omega (arith, ih k)
    go ih (inr k) = last (member_out x m [] k)

pub numbers_ascending : (m : ℕ) → ascending (numbers m) ≡ true
numbers_ascending zero = unfold numbers each ascending in refl
numbers_ascending (suc m) =
    ap ascending (numbers_more m) ∙
    ascending_behind (numbers m) m (numbers_ascending m) (λ y k. numbers_out y m k)

module _ (f : ℕ → Bool) where
  pub those_ascending : (xs : List ℕ) → ascending xs ≡ true → ascending (those f xs) ≡ true
  those_ascending [] h = unfold those ascending in refl
  those_ascending (x ∷ xs) h = go (those_ascending xs (ascending_tail x xs h)) (which (f x))
    where
      go : ascending (those f xs) ≡ true → (f x ≡ true) ⊎ (f x ≡ false) → ascending (those f (x ∷ xs)) ≡ true
      go ih (inl t) =
          ap ascending (those_keep f x xs t) ∙
          ascending_cons x (those f xs) (λ y m. ascending_head x xs h y (those_out f y xs m).0) ih
      go ih (inr t) = ap ascending (those_drop f x xs t) ∙ ih

  pub those_append : (xs ys : List ℕ) → those f (xs ++ ys) ≡ those f xs ++ those f ys
  those_append [] ys = unfold those in refl
  those_append (x ∷ xs) ys = go (those_append xs ys) (which (f x))
    where
      go :
          those f (xs ++ ys) ≡ those f xs ++ those f ys → (f x ≡ true) ⊎ (f x ≡ false) →
          those f (x ∷ xs ++ ys) ≡ those f (x ∷ xs) ++ those f ys
      go ih (inl t) =
          those_keep f x (xs ++ ys) t ∙ ap (λ l. x ∷ l) ih ∙ ap (λ l. l ++ those f ys) (sym (those_keep f x xs t))
      go ih (inr t) = those_drop f x (xs ++ ys) t ∙ ih ∙ ap (λ l. l ++ those f ys) (sym (those_drop f x xs t))

  pub those_counted : (m : ℕ) → length (those f (numbers m)) ≡ count f m
  those_counted zero = unfold numbers each those count in refl
  those_counted (suc m) =
      ap (λ l. length (those f l)) (numbers_more m) ∙ ap length (those_append (numbers m) (m ∷ [])) ∙
      length-append (those f (numbers m)) (those f (m ∷ [])) ∙ go (those_counted m) (which (f m))
    where
      bare : length (those f []) ≡ 0
      bare = unfold those in refl

      go :
          length (those f (numbers m)) ≡ count f m → (f m ≡ true) ⊎ (f m ≡ false) →
          length (those f (numbers m)) + length (those f (m ∷ [])) ≡ count f (suc m)
      go ih (inl t) = omega (arith, count_more f m t, ap length (those_keep f m [] t), bare)
      go ih (inr t) = omega (arith, count_same f m t, ap length (those_drop f m [] t), bare)

pub price_most :
    (toll : ℕ → ℕ) (most : ℕ) (xs : List ℕ) → ((x : ℕ) → member x xs ≡ true → toll x ≤ most) →
    price toll xs ≤ most * length xs
price_most toll most [] h = unfold price in omega arith
price_most toll most (x ∷ xs) h =
    omega (
      arith,
      price_cons toll x xs,
      mul-suc most (length xs),
      h x (member_here x xs),
      price_most toll most xs (λ y m. h y (member_there y x xs m)),
    )
