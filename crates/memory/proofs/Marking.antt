-- The table of costs: places marked and given back one by one. Assumes nothing.
use mathlib.Core.Path.{◌≡◌, refl, sym, ap, ◌∙◌}
use mathlib.Core.Logic.{◌⊎◌, inl, inr, ◌≢◌}
use mathlib.Core.Bool.{true, false}
use mathlib.Core.List.{List, [], ◌∷◌}
use Prim.Native.Nat.{ℕ, zero, suc, ◌+◌, ◌*◌, ◌/◌, ◌≤◌, ◌<◌}
use native.Mathlib.Nat.{mul-le-mul}
use native.Mathlib.Omega.{arith}
use native.Mathlib.Numerals.{add-one}
use borrow.Author.Tests.{ne_eqb}
use lib.ListN.{length, get_or, drop, set, length-set}
use lib.Seq.{drop-cons, get_or-set_same, get_or-set_other, ext_get_or}
use Rattle.bits.proofs.Truth.{never, or_off, equal}
use Rattle.repair.specs.Pair.{member}
use Rattle.repair.proofs.Sets.{member_here, member_there}
use Rattle.memory.specs.Table.{Apart}

-- a row's first number
pub row_small : (n p : ℕ) → n ≤ 128 → p < 16384 → p / 128 * n ≤ 16256
row_small n p few fits = omega (arith, mul-le-mul {n₁ = p / 128} {m₁ = n} {n₂ = 127} {m₂ = 128} (omega arith) few)

-- an entry of a list is a member
pub entry_member : (xs : List ℕ) (i : ℕ) → i < length xs → member (get_or xs i 0) xs ≡ true
entry_member [] i h = absurd (omega arith)
entry_member (x ∷ xs) zero h = member_here x xs
entry_member (x ∷ xs) (suc i) h = member_there (get_or xs i 0) x xs (entry_member xs i (omega arith))

-- nothing is apart where no place is listed
pub apart_none : (first cost : List ℕ) → Apart [] first cost → cost ≡ first
apart_none first cost a = ext_get_or 0 cost first a.long (λ i l. a.others i (unfold member in refl))

-- one of the places is stored
pub apart_set :
    (places first cost : List ℕ) (p x : ℕ) → member p places ≡ true → Apart places first cost → Apart places first (set cost p x)
apart_set places first cost p x m a =
    record {
      long = length-set cost p x ∙ a.long;
      others = λ i out. get_or-set_other cost p i x 0 (λ e. differ i out e) ∙ a.others i out;
    }
  where
    differ : (i : ℕ) → member i places ≡ false → i ≡ p → ⊥
    differ i out e = never m (ap (λ j. member j places) (sym e) ∙ out)

pub apart_same : (places first : List ℕ) → Apart places first first
apart_same places first = record { long = refl; others = λ p out. refl }

-- a place costs again what it did
pub apart_back :
    (places first cost : List ℕ) (w x : ℕ) → w < length places → get_or places w 0 < length cost →
    x ≡ get_or first (get_or places w 0) 0 → Apart (drop w places) first cost →
    Apart (drop (w + 1) places) first (set cost (get_or places w 0) x)
unfolding member
apart_back places first cost w x fits inside same a =
    rw (add-one w)
    (record {
      long = length-set cost (get_or places w 0) x ∙ a.long;
      others = λ i out. go i out (equal i (get_or places w 0));
    })
  where
    go :
        (i : ℕ) → member i (drop (suc w) places) ≡ false → (i ≡ get_or places w 0) ⊎ (i ≢ get_or places w 0) →
        get_or (set cost (get_or places w 0) x) i 0 ≡ get_or first i 0
    go i out (inl e) = rw e (get_or-set_same cost (get_or places w 0) x 0 inside ∙ same)
    go i out (inr e) =
        get_or-set_other cost (get_or places w 0) i x 0 e ∙
        a.others i (ap (member i) (drop-cons places w 0 fits) ∙ or_off (ne_eqb i (get_or places w 0) e) out)
