-- "A number is given exactly when its row holds and no number earlier in the call's order does", for any list of checks.
-- Assumes nothing.
use mathlib.Core.Path.{◌≡◌, refl, sym}
use mathlib.Core.Bool.{Bool, true, false}
use mathlib.Core.List.{List, [], ◌∷◌}
use Prim.Native.Nat.{ℕ, zero, suc, ◌<◌}
use native.Mathlib.Omega.{arith}
use lib.ListN.{get_or}
use Rattle.std.specs.Prelude.{Ok, Err}
use Rattle.graph.specs.declared.Refusal.{Refusal}
use Rattle.graph.specs.Refusal.{Finding, row, first_of}
use Rattle.graph.proofs.Leading.{fault_not_fine}

-- position k of the checks finds this, and no earlier one finds anything
pub record Found (xs : List Finding) (r : Refusal) : Type 0 where
  pub position : ℕ
  pub finds : get_or xs position (Ok tt) ≡ Err r
  pub earlier : (m : ℕ) → m < position → get_or xs m (Ok tt) ≡ Ok tt

pub first_of_found : (xs : List Finding) (r : Refusal) → first_of xs ≡ Err r → Found xs r
unfolding first_of
first_of_found [] r p = absurd (fault_not_fine (sym p))
first_of_found (Err r' ∷ xs) r p =
    record { position = 0; finds = p; earlier = λ m l. absurd (omega arith) }
first_of_found (Ok done ∷ xs) r p = go (first_of_found xs r p)
  where
    go : Found xs r → Found (Ok done ∷ xs) r
    go F = record { position = suc F.position; finds = F.finds; earlier = earlier }
      where
        earlier : (m : ℕ) → m < suc F.position → get_or (Ok done ∷ xs) m (Ok tt) ≡ Ok tt
        earlier zero l = refl
        earlier (suc m) l = F.earlier m (omega arith)

pub found_first_of : (xs : List Finding) (r : Refusal) → Found xs r → first_of xs ≡ Err r
unfolding first_of
found_first_of [] r F = absurd (fault_not_fine (sym F.finds))
found_first_of (x ∷ xs) r F = go (found_first_of xs r) F.position x F.finds F.earlier
  where
    go :
        (Found xs r → first_of xs ≡ Err r) → (k : ℕ) (y : Finding) →
        get_or (y ∷ xs) k (Ok tt) ≡ Err r → ((m : ℕ) → m < k → get_or (y ∷ xs) m (Ok tt) ≡ Ok tt) →
        first_of (y ∷ xs) ≡ Err r
    go below zero (Ok tt) p h = absurd (fault_not_fine (sym p))
    go below zero (Err r') p h = p
    go below (suc k) (Ok tt) p h =
        below (record { position = k; finds = p; earlier = λ m l. h (suc m) (omega arith) })
    go below (suc k) (Err r') p h = absurd (fault_not_fine (h 0 (omega arith)))

-- nothing is given exactly where no check finds anything
pub first_of_fine : (xs : List Finding) → first_of xs ≡ Ok tt → (k : ℕ) → get_or xs k (Ok tt) ≡ Ok tt
unfolding first_of
first_of_fine [] p k = refl
first_of_fine (Err r ∷ xs) p k = absurd (fault_not_fine p)
first_of_fine (Ok done ∷ xs) p zero = refl
first_of_fine (Ok done ∷ xs) p (suc k) = first_of_fine xs p k

pub fine_first_of : (xs : List Finding) → ((k : ℕ) → get_or xs k (Ok tt) ≡ Ok tt) → first_of xs ≡ Ok tt
unfolding first_of
fine_first_of [] h = refl
fine_first_of (Err r ∷ xs) h = absurd (fault_not_fine (h 0))
fine_first_of (Ok done ∷ xs) h = fine_first_of xs (λ k. h (suc k))

-- one check more in front
pub first_of_next : (x : Finding) (xs : List Finding) → x ≡ Ok tt → first_of (x ∷ xs) ≡ first_of xs
unfolding first_of
first_of_next x xs p = rw p refl

pub first_of_here : (x : Finding) (xs : List Finding) {r : Refusal} → x ≡ Err r → first_of (x ∷ xs) ≡ Err r
unfolding first_of
first_of_here x xs p = rw p refl

pub first_of_single : (x : Finding) → first_of (x ∷ []) ≡ x
unfolding first_of
first_of_single (Ok done) = refl
first_of_single (Err r) = refl

-- a row of the table finds its refusal exactly where it holds
pub row_holds : (r : Refusal) {b : Bool} → b ≡ true → row r b ≡ Err r
unfolding row
row_holds r p = rw p refl

pub row_passes : (r : Refusal) {b : Bool} → b ≡ false → row r b ≡ Ok tt
unfolding row
row_passes r p = rw p refl

pub row_fine : (r : Refusal) (b : Bool) → row r b ≡ Ok tt → b ≡ false
unfolding row
row_fine r true p = absurd (fault_not_fine p)
row_fine r false p = refl

pub row_fault :
    (r : Refusal) (b : Bool) {s : Refusal} → row r b ≡ Err s → (b ≡ true) × (s ≡ r)
unfolding row
row_fault r true p = (refl, cc)
row_fault r false p = absurd (fault_not_fine (sym p))
