-- The check 5 of the scores: where every score is on the scale it finds nothing, and else the first pair at fault, row by row.
-- Assumes nothing.
use mathlib.Core.Path.{◌≡◌, refl, sym, ◌∙◌, ap}
use mathlib.Core.Logic.{◌⊎◌, inl, inr, ◌≢◌}
use mathlib.Core.Bool.{Bool, true, false, not}
use mathlib.Core.List.{List, [], ◌∷◌}
use Prim.Native.Nat.{ℕ, ◌+◌, ◌≤◌, ◌<◌}
use native.Mathlib.Omega.{arith}
use lib.ListN.{get_or}
use lib.IntN.{ℤ, pos}
use lib.Dec.{ltb}
use lib.Signed.{mag}
use mir.Syntax.{w16}
use mir.Val.{of_z, to_z}
use borrow.Author.Tests.{lt-ltb, le-ltb, not-false}
use Rattle.bits.specs.Choice.{pick}
use Rattle.bits.proofs.Truth.{below, not_in, not_off, passes, pick_true, pick_false}
use Rattle.std.specs.Prelude.{Ok, Err}
use Rattle.graph.specs.declared.Refusal.TheVariants.{OffScale}
use Rattle.graph.specs.Each.{each, only}
use Rattle.graph.specs.Refusal.{Finding, first_of}
use Rattle.graph.proofs.Leading.{each_nothing, nothing_each, first_of_leading, fault_not_fine}
use Rattle.graph.proofs.Refusals.{first_of_single}
use Rattle.graph.proofs.CheckLaws.{found_here}
use Rattle.scores.specs.Scale.{on_scale, half, place, spot, score_of, score_off, threshold_off, scores_off}
use Rattle.scores.proofs.Checking.{hit, pass, fine_out}
use Rattle.scores.proofs.Complement.{back}
use Rattle.scores.proofs.Places.{place_onto}

module _ (n : ℕ) (scores : List ℤ) where
  abbrev on : ℕ → Bool
  on k = on_scale (get_or scores k (pos 0))

  abbrev cell : ℕ → ℕ → List Finding
  cell i j = only (ltb i j) (score_off n scores i j)

  score_place : (i j : ℕ) → i < j → score_of n scores i j ≡ get_or scores (place n i j) (pos 0)
  unfolding score_of spot
  score_place i j h = ap (λ k. get_or scores k (pos 0)) (pick_true (place n i j) (place n j i) (lt-ltb i j h))

  quiet_cell : (i j : ℕ) → (i < j → on_scale (score_of n scores i j) ≡ true) → first_of (cell i j) ≡ Ok tt
  unfolding only first_of score_off
  quiet_cell i j h = go (below i j)
    where
      go : (i < j) ⊎ (j ≤ i) → first_of (cell i j) ≡ Ok tt
      go (inl p) =
          ap (λ b. first_of (only b (score_off n scores i j))) (lt-ltb i j p)
          ∙ first_of_single (score_off n scores i j)
          ∙ pick_true (Ok tt) (Err (OffScale i j)) (h p)
      go (inr p) = ap (λ b. first_of (only b (score_off n scores i j))) (le-ltb i j p)

  loud_cell : (i j : ℕ) → i < j → on_scale (score_of n scores i j) ≡ false → Err (OffScale i j) ≡ first_of (cell i j)
  unfolding only first_of score_off
  loud_cell i j h off =
      sym
      (ap (λ b. first_of (only b (score_off n scores i j))) (lt-ltb i j h)
      ∙ first_of_single (score_off n scores i j)
      ∙ pick_false (Ok tt) (Err (OffScale i j)) off)

  -- the pair {i, j} has one score
  pub score_mirror : (i j : ℕ) → i ≢ j → score_of n scores i j ≡ score_of n scores j i
  unfolding score_of spot
  score_mirror i j apart = ap (λ k. get_or scores k (pos 0)) (go (below i j))
    where
      go : (i < j) ⊎ (j ≤ i) → pick (ltb i j) (place n i j) (place n j i) ≡ pick (ltb j i) (place n j i) (place n i j)
      go (inl p) =
          pick_true (place n i j) (place n j i) (lt-ltb i j p)
          ∙ sym (pick_false (place n j i) (place n i j) (le-ltb j i (omega arith)))
      go (inr p) =
          pick_false (place n i j) (place n j i) (le-ltb i j p)
          ∙ sym (pick_true (place n j i) (place n i j) (lt-ltb j i (omega arith)))

  -- where the check finds nothing, every score is on the scale
  up_on : (i j : ℕ) → i < j → j < n → Ok tt ≡ scores_off n scores → on_scale (score_of n scores i j) ≡ true
  unfolding scores_off score_off
  up_on i j up hj e =
      let here : Ok tt ≡ first_of (cell i j) = sym (nothing_each first_of_leading n (cell i) (nothing_each first_of_leading n (λ i. each n (cell i)) (sym e) i (omega arith)) j hj) in
      passes (λ off. fault_not_fine (loud_cell i j up off ∙ sym here))

  pub scores_on : (i j : ℕ) → i ≢ j → i < n → j < n → Ok tt ≡ scores_off n scores → on_scale (score_of n scores i j) ≡ true
  scores_on i j apart hi hj e = go (below i j)
    where
      go : (i < j) ⊎ (j ≤ i) → on_scale (score_of n scores i j) ≡ true
      go (inl p) = up_on i j p hj e
      go (inr p) = ap on_scale (score_mirror i j apart) ∙ up_on j i (omega arith) hi e

  pub each_on : Ok tt ≡ scores_off n scores → (k : ℕ) → k < half n → on k ≡ true
  each_on e k h =
      let (i, j, up, hj, at) = place_onto n k h in
      ap on (sym at) ∙ ap on_scale (sym (score_place i j up)) ∙ up_on i j up hj e

  -- every score above row i, and of row i before column j, is on the scale
  abbrev pub RowsOn : ℕ → Type 0
  RowsOn i = (a b : ℕ) → a < i → a < b → b < n → on_scale (score_of n scores a b) ≡ true

  abbrev pub RowOn : ℕ → ℕ → Type 0
  RowOn i j = (b : ℕ) → i < b → b < j → on_scale (score_of n scores i b) ≡ true

  pub one_more_on : (i j : ℕ) → RowOn i j → on_scale (score_of n scores i j) ≡ true → RowOn i (j + 1)
  one_more_on i j row here b low up = go (below b j)
    where
      go : (b < j) ⊎ (j ≤ b) → on_scale (score_of n scores i b) ≡ true
      go (inl p) = row b low p
      go (inr p) = let e : b ≡ j = omega arith in ap (λ (x : ℕ). on_scale (score_of n scores i x)) e ∙ here

  -- the score of a pair as the code reads and tries it: z at place k, passed on by its bits
  pub tried :
      (i j : ℕ) {k : ℕ} {z : ℤ} {r b : Bool} → k ≡ spot n i j → z ≡ get_or scores k (pos 0) → mag z < 32768 →
      r ≡ on_scale (to_z w16 (of_z w16 z)) → r ≡ b → on_scale (score_of n scores i j) ≡ b
  unfolding score_of
  tried i j {k} {z} at here fits e told =
      sym (ap on_scale (back z fits ∙ here ∙ ap (λ x. get_or scores x (pos 0)) at)) ∙ sym e ∙ told

  -- no score is off
  pub scores_fine : RowsOn n → Ok tt ≡ scores_off n scores
  unfolding scores_off
  scores_fine all =
      sym (each_nothing first_of_leading n (λ i. each n (cell i)) (λ i hi. each_nothing first_of_leading n (cell i) (λ j hj.
      quiet_cell i j (λ up. all i j hi up hj))))

  -- the first that is off
  pub scores_fault :
      (i j : ℕ) → i < j → j < n → RowsOn i → RowOn i j → on_scale (score_of n scores i j) ≡ false → Err (OffScale i j) ≡ scores_off n scores
  unfolding scores_off
  scores_fault i j up hj rows row off =
      let here : Err (OffScale i j) ≡ first_of (each n (cell i)) =
      found_here (cell i) n j hj (λ b hb. quiet_cell i b (λ u. row b u hb)) (loud_cell i j up off) refl in
      found_here (λ a. each n (cell a)) n i (omega arith)
      (λ a ha. each_nothing first_of_leading n (cell a) (λ b hb. quiet_cell a b (λ u. rows a b ha u hb)))
      here refl

-- the threshold is tried first, then the scores
module _ (n : ℕ) (scores : List ℤ) (t : ℤ) where
  pub threshold_fault : on_scale t ≡ false → Err (OffScale 0 0) ≡ first_of (threshold_off t ∷ scores_off n scores ∷ [])
  unfolding threshold_off
  threshold_fault off = hit (OffScale 0 0) (scores_off n scores ∷ []) (not_in off)

  pub scores_next : {x : Finding} → on_scale t ≡ true → x ≡ scores_off n scores → x ≡ first_of (threshold_off t ∷ scores_off n scores ∷ [])
  unfolding threshold_off
  scores_next here e = e ∙ sym (first_of_single (scores_off n scores)) ∙ pass (OffScale 0 0) (scores_off n scores ∷ []) (not_off here)

  pub both_on : Ok tt ≡ first_of (threshold_off t ∷ scores_off n scores ∷ []) → (on_scale t ≡ true) × (Ok tt ≡ scores_off n scores)
  unfolding threshold_off
  both_on e =
      let a = fine_out (OffScale 0 0) (not (on_scale t)) (scores_off n scores ∷ []) e in
      (not-false (on_scale t) a.0, a.1 ∙ first_of_single (scores_off n scores))
