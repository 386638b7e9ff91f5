-- Prices that number 6 lets pass: a pair that may be changed costs 1 to 10,000. Assumes nothing.
use mathlib.Core.Path.{◌≡◌, refl, sym, ap, ◌∙◌}
use mathlib.Core.Logic.{◌⊎◌, inl, inr}
use mathlib.Core.Bool.{Bool, true, false, ◌&&◌}
use mathlib.Core.List.{List}
use Prim.Native.Nat.{ℕ, ◌+◌, ◌*◌, ◌/◌, ◌%◌, ◌≤◌, ◌<◌}
use native.Mathlib.Nat.{div-add-mod', div-lt_iff_lt-mul, mod-lt, eq-zero-or-pos, zero-mul}
use native.Mathlib.Omega.{arith}
use lib.ListN.{get_or}
use lib.Dec.{ltb, leb, eqb}
use borrow.Author.Tests.{ltb-true, leb-true, ne_eqb, not-true}
use Rattle.bits.specs.Choice.{pick}
use Rattle.bits.proofs.Truth.{never, and_left, and_right, or_out, pick_false}
use Rattle.std.specs.Prelude.{Ok, Err}
use Rattle.graph.specs.declared.Refusal.TheVariants.{BadPrice}
use Rattle.graph.specs.Refusal.{Finding}
use Rattle.graph.specs.Price.{fixed, priced, price_entry, price_entries}
use Rattle.graph.proofs.Leading.{fault_not_fine}
use Rattle.graph.proofs.Grid.{grid_fine}
use Rattle.repair.specs.Pair.{is_pair, changeable}
use Rattle.repair.specs.Repair.{toll_of}
use Rattle.repair.proofs.Instance.{Positive}

-- an entry that passes is by the rule
entry_priced : (n : ℕ) (ps : List ℕ) (i j : ℕ) → price_entry n ps i j ≡ Ok tt → priced i j (get_or ps (i * n + j) 0) ≡ true
unfolding price_entry
entry_priced n ps i j h = go (priced i j (get_or ps (i * n + j) 0)) refl h
  where
    mirror : Bool
    mirror = eqb (get_or ps (i * n + j) 0) (get_or ps (j * n + i) 0)

    go :
        (b : Bool) → priced i j (get_or ps (i * n + j) 0) ≡ b → ◌≡◌ {A = Finding} (pick (b && mirror) (Ok tt) (Err (BadPrice i j))) (Ok tt) →
        priced i j (get_or ps (i * n + j) 0) ≡ true
    go true p k = p
    go false p k = absurd (fault_not_fine k)

-- the rule for a pair that is not fixed
loose_priced : (i j p : ℕ) → (i ≡ j → ⊥) → eqb p fixed ≡ false → priced i j p ≡ true → (1 ≤ p) × (p ≤ 10000)
unfolding priced
loose_priced i j p apart loose h =
    go (or_out (leb 1 p && leb p 10000) (eqb p fixed) (sym (pick_false (eqb p 0) _ (ne_eqb i j apart)) ∙ h))
  where
    go : ((leb 1 p && leb p 10000) ≡ true) ⊎ (eqb p fixed ≡ true) → (1 ≤ p) × (p ≤ 10000)
    go (inl k) = (leb-true 1 p (and_left (leb 1 p) _ k), leb-true p 10000 (and_right (leb 1 p) _ k))
    go (inr k) = never k loose

pub some_vertex : (n x : ℕ) → x < n * n → 0 < n
some_vertex n x l = go (eq-zero-or-pos n)
  where
    go : (n ≡ 0) ⊎ (0 < n) → 0 < n
    go (inl e) = absurd (let none : n * n ≡ 0 = ap (λ t. t * n) e ∙ zero-mul n in omega arith)
    go (inr p) = p

module _ (n : ℕ) (ps : List ℕ) (fine : price_entries n ps ≡ Ok tt) where
  pub tolls_within : (x : ℕ) → changeable n (toll_of ps) x ≡ true → (1 ≤ toll_of ps x) × (toll_of ps x ≤ 10000)
  unfolding changeable is_pair price_entries
  tolls_within x c =
      let pair = and_left (is_pair n x) _ c in
      let less = ltb-true (x / n) (x % n) (and_right (ltb x (n * n)) _ pair) in
      let small = ltb-true x (n * n) (and_left (ltb x (n * n)) _ pair) in
      let most = some_vertex n x small in
      let entry = grid_fine n (price_entry n ps) fine (x / n) (x % n) ((div-lt_iff_lt-mul most).1 small) (mod-lt x most) in
      let rule = entry_priced n ps (x / n) (x % n) entry in
      let here : get_or ps (x / n * n + x % n) 0 ≡ get_or ps x 0 = ap (λ t. get_or ps t 0) (div-add-mod' x n) in
      loose_priced (x / n) (x % n) (get_or ps x 0) (λ q. omega arith)
      (not-true _ (and_right (is_pair n x) _ c)) (ap (priced (x / n) (x % n)) (sym here) ∙ rule)

  pub tolls_positive : Positive n (toll_of ps)
  tolls_positive x c = (tolls_within x c).0
