-- For the loops of the checks: an index i * n + j stays inside n * n, what `entry` says in each case of the code, and how
-- the first fault of rows or entries is found one by one. Assumes nothing.
use mathlib.Core.Path.{◌≡◌, refl, sym, ◌∙◌}
use mathlib.Core.Logic.{◌⊎◌, inl, inr, ◌≢◌}
use mathlib.Core.Bool.{Bool, true, false, not, ◌&&◌, ◌||◌}
use mathlib.Core.List.{List}
use Prim.Native.Nat.{ℕ, ◌+◌, ◌*◌, ◌≤◌, ◌<◌}
use native.Mathlib.Nat.{suc-mul, mul-le-mul, mul-le-mul_right}
use native.Mathlib.Omega.{arith}
use borrow.Author.Count.{below_more}
use borrow.Author.Tests.{eq-eqb, ne_eqb, lt-ltb, le-ltb}
use lib.Dec.{ltb, eqb}
use Rattle.bits.specs.Choice.{pick}
use Rattle.bits.proofs.Truth.{equal, or_right}
use Rattle.std.specs.Prelude.{Ok, Err}
use Rattle.graph.specs.declared.Refusal.{Refusal}
use Rattle.graph.specs.declared.Refusal.TheVariants.{BadEntry, Lopsided}
use Rattle.graph.specs.Each.{each}
use Rattle.graph.specs.Refusal.{Finding, first_of}
use Rattle.graph.specs.Check.{entry}
use Rattle.graph.proofs.Leading.{first_of_leading, each_nothing, each_leads, fault_not_fine}
use Rattle.graph.proofs.Reading.{value, bad, entry_three, entry_four, entry_fine}

-- the place of row i, column j is inside, and the whole is small
pub inside : {n i j : ℕ} → n ≤ 128 → i < n → j < n → (i * n + j < n * n) × (n * n ≤ 16384)
inside {n} {i} {j} few hi hj =
    (omega (arith, suc-mul i n, mul-le-mul_right n hi), mul-le-mul few few)

module _ (n : ℕ) (g : List ℕ) (i j : ℕ) where
  -- 3 stands where the entry is above the most it may be
  bad_above : bad n g i j ≡ ltb (pick (eqb i j) 0 1) (value n g i j)
  bad_above = at (equal i j) (equal (value n g i j) 0)
    where
      or_none : (b : Bool) → (b || false) ≡ b
      or_none true = refl
      or_none false = refl

      at :
          (i ≡ j) ⊎ (i ≢ j) → (value n g i j ≡ 0) ⊎ (value n g i j ≢ 0) →
          (ltb 1 (value n g i j) || (eqb i j && not (eqb (value n g i j) 0))) ≡ ltb (pick (eqb i j) 0 1) (value n g i j)
      at (inl e) (inl z) =
          let none = le-ltb 0 (value n g i j) (omega arith) in
          let less = le-ltb 1 (value n g i j) (omega arith) in
          simp (eq-eqb i j e, eq-eqb (value n g i j) 0 z, none, less)
      at (inl e) (inr z) =
          simp (eq-eqb i j e, ne_eqb (value n g i j) 0 z, lt-ltb 0 (value n g i j) (omega arith))
          (or_right (ltb 1 (value n g i j)) refl)
      at (inr d) w = simp (ne_eqb i j d) (or_none (ltb 1 (value n g i j)))

  module _ {m : ℕ} (most : m ≡ pick (eqb i j) 0 1) where
    bad_most : bad n g i j ≡ ltb m (value n g i j)
    bad_most = rw most bad_above

    pub above_fault : m < value n g i j → Err (BadEntry i j) ≡ entry n g i j
    above_fault h = sym (entry_three n g i j (bad_most ∙ lt-ltb m (value n g i j) h))

    pub unlike_fault : value n g i j ≤ m → value n g i j ≢ value n g j i → Err (Lopsided i j) ≡ entry n g i j
    unlike_fault h d = sym (entry_four n g i j (bad_most ∙ le-ltb m (value n g i j) h) d)

    pub like_fine : value n g i j ≤ m → value n g i j ≡ value n g j i → Ok tt ≡ entry n g i j
    like_fine h e = sym (entry_fine n g i j (bad_most ∙ le-ltb m (value n g i j) h) e)

-- nothing is found before place k
abbrev pub Quiet : (ℕ → List Finding) → ℕ → Type 0
Quiet f k = (b : ℕ) → b < k → first_of (f b) ≡ Ok tt

module _ (f : ℕ → List Finding) where
  pub quiet_next : (k : ℕ) → Quiet f k → first_of (f k) ≡ Ok tt → Quiet f (k + 1)
  quiet_next k before here = below_more _ k before here

  -- nothing is found before k, and something at k: that is the answer
  pub found_here :
      {x : Finding} {r : Refusal} (n k : ℕ) → k < n → Quiet f k → x ≡ first_of (f k) → x ≡ Err r →
      x ≡ first_of (each n f)
  found_here {x} n k h before here fault =
      sym
      (each_leads first_of_leading n f x (λ e. fault_not_fine (sym fault ∙ e))
      (record { place = k; within = h; says = sym here; earlier = before }))

  -- nothing is found at all
  pub quiet_end : (n k : ℕ) → n ≤ k → Quiet f k → Ok tt ≡ first_of (each n f)
  quiet_end n k past before = sym (each_nothing first_of_leading n f (λ b h. before b (omega arith)))
