-- What the checks 3 and 4 say of a matrix: an entry is fine exactly if it is 0 or 1, 0 on the diagonal and equal to its
-- mirror; the first entry at fault row by row decides; a matrix with no fault is a graph. Assumes nothing.
use mathlib.Core.Path.{◌≡◌, refl, sym, ◌∙◌}
use mathlib.Core.Logic.{◌⊎◌, inl, inr, ◌≢◌}
use mathlib.Core.Bool.{Bool, true, false, not, ◌&&◌, ◌||◌}
use mathlib.Core.List.{List}
use Prim.Native.Nat.{ℕ, ◌<◌, ◌≤◌, ◌+◌, ◌*◌}
use native.Mathlib.Omega.{arith}
use lib.ListN.{get_or}
use lib.Dec.{ltb, eqb}
use borrow.Author.Tests.{eqb-true, eqb-false, eq-eqb, ne_eqb, ltb-true, ltb-false, le-ltb, lt-ltb, not-false}
use Rattle.bits.specs.Choice.{pick}
use Rattle.bits.proofs.Truth.{
  never,
  which,
  fails,
  same,
  and_in,
  and_left,
  and_right,
  and_out,
  and_off_left,
  and_off_right,
  or_off,
  or_off_left,
  or_off_right,
  not_off,
  pick_true,
  pick_false,
}
use Rattle.std.specs.Prelude.{Ok, Err}
use Rattle.graph.specs.declared.Refusal.{Refusal}
use Rattle.graph.specs.declared.Refusal.TheVariants.{BadEntry, Lopsided}
use Rattle.graph.specs.Refusal.{Finding, row_at, column_at}
use Rattle.graph.specs.Graph.{IsGraph, edge}
use Rattle.graph.specs.Check.{entry, entries}
use Rattle.graph.proofs.Leading.{fault_not_fine}
use Rattle.graph.proofs.Grid.{OwnPlace, AtFault, grid_fine, fine_grid, grid_fault, fault_grid}

-- the entry at row i, column j
abbrev pub value : ℕ → List ℕ → ℕ → ℕ → ℕ
value n g i j = get_or g (i * n + j) 0

-- "graph entry not 0 or 1, or diagonal not 0"
abbrev pub bad : ℕ → List ℕ → ℕ → ℕ → Bool
bad n g i j = ltb 1 (value n g i j) || (eqb i j && not (eqb (value n g i j) 0))

-- 3 where the entry is bad, 4 where it is not and differs from its mirror
pub data Verdict (n : ℕ) (g : List ℕ) (i j : ℕ) : Finding → Type 0 where
  three : bad n g i j ≡ true → Verdict n g i j (Err (BadEntry i j))
  four : bad n g i j ≡ false → value n g i j ≢ value n g j i → Verdict n g i j (Err (Lopsided i j))
  fine : bad n g i j ≡ false → value n g i j ≡ value n g j i → Verdict n g i j (Ok tt)

verdict_fine :
    {n : ℕ} {g : List ℕ} {i j : ℕ} {x : Finding} → Verdict n g i j x → x ≡ Ok tt →
    (bad n g i j ≡ false) × (value n g i j ≡ value n g j i)
verdict_fine (three b) p = absurd (fault_not_fine p)
verdict_fine (four b d) p = absurd (fault_not_fine p)
verdict_fine (fine b d) p = (b, d)

-- two refusals that are equal are at one place
placed : (s r : Refusal) → ◌≡◌ {A = Finding} (Err s) (Err r) → (row_at r ≡ row_at s) × (column_at r ≡ column_at s)
placed s r p = let e : r ≡ s = cc in rw e (refl, refl)

verdict_place :
    {n : ℕ} {g : List ℕ} {i j : ℕ} {x : Finding} → Verdict n g i j x → (r : Refusal) → x ≡ Err r →
    (row_at r ≡ i) × (column_at r ≡ j)
verdict_place (three b) r p = placed (BadEntry _ _) r p
verdict_place (four b d) r p = placed (Lopsided _ _) r p
verdict_place (fine b d) r p = absurd (fault_not_fine (sym p))

module _ (n : ℕ) (g : List ℕ) (i j : ℕ) where
  -- the three cases of an entry
  pub entry_three : bad n g i j ≡ true → entry n g i j ≡ Err (BadEntry i j)
  unfolding entry
  entry_three p = pick_true (Err (BadEntry i j)) (pick (eqb (value n g i j) (value n g j i)) (Ok tt) (Err (Lopsided i j))) p

  pub entry_four : bad n g i j ≡ false → value n g i j ≢ value n g j i → entry n g i j ≡ Err (Lopsided i j)
  unfolding entry
  entry_four p q =
      pick_false (Err (BadEntry i j)) (pick (eqb (value n g i j) (value n g j i)) (Ok tt) (Err (Lopsided i j))) p ∙
      pick_false (Ok tt) (Err (Lopsided i j)) (ne_eqb (value n g i j) (value n g j i) q)

  pub entry_fine : bad n g i j ≡ false → value n g i j ≡ value n g j i → entry n g i j ≡ Ok tt
  unfolding entry
  entry_fine p q =
      pick_false (Err (BadEntry i j)) (pick (eqb (value n g i j) (value n g j i)) (Ok tt) (Err (Lopsided i j))) p ∙
      pick_true (Ok tt) (Err (Lopsided i j)) (eq-eqb (value n g i j) (value n g j i) q)

  pub verdict : Verdict n g i j (entry n g i j)
  verdict = go (which (bad n g i j)) (which (eqb (value n g i j) (value n g j i)))
    where
      go :
          (bad n g i j ≡ true) ⊎ (bad n g i j ≡ false) →
          (eqb (value n g i j) (value n g j i) ≡ true) ⊎ (eqb (value n g i j) (value n g j i) ≡ false) →
          Verdict n g i j (entry n g i j)
      go (inl p) q = rw (entry_three p) (three p)
      go (inr p) (inl q) =
          let d = eqb-true (value n g i j) (value n g j i) q in
          rw (entry_fine p d) (fine p d)
      go (inr p) (inr q) =
          let d = eqb-false (value n g i j) (value n g j i) q in
          rw (entry_four p d) (four p d)

  -- what is not bad is 0 or 1, and 0 on the diagonal
  pub good_small : bad n g i j ≡ false → value n g i j ≤ 1
  good_small p =
      ltb-false 1 (value n g i j)
      (or_off_left (ltb 1 (value n g i j)) (eqb i j && not (eqb (value n g i j) 0)) p)

  pub good_diagonal : bad n g i j ≡ false → i ≡ j → value n g i j ≡ 0
  good_diagonal p e = go (and_out (eqb i j) (not (eqb (value n g i j) 0)) off)
    where
      off : (eqb i j && not (eqb (value n g i j) 0)) ≡ false
      off = or_off_right (ltb 1 (value n g i j)) (eqb i j && not (eqb (value n g i j) 0)) p

      go : (eqb i j ≡ false) ⊎ (not (eqb (value n g i j) 0) ≡ false) → value n g i j ≡ 0
      go (inl z) = never (eq-eqb i j e) z
      go (inr z) = eqb-true (value n g i j) 0 (not-false (eqb (value n g i j) 0) z)

  pub small_good : value n g i j ≤ 1 → (i ≡ j → value n g i j ≡ 0) → bad n g i j ≡ false
  small_good l h = or_off (le-ltb 1 (value n g i j) l) (go (which (eqb i j)))
    where
      go : (eqb i j ≡ true) ⊎ (eqb i j ≡ false) → (eqb i j && not (eqb (value n g i j) 0)) ≡ false
      go (inl z) = and_off_right (eqb i j) (not_off (eq-eqb (value n g i j) 0 (h (eqb-true i j z))))
      go (inr z) = and_off_left (not (eqb (value n g i j) 0)) z

-- faults of an entry are at its own place
pub entry_own : (n : ℕ) (g : List ℕ) → OwnPlace (entry n g)
entry_own n g i j r p = verdict_place (verdict n g i j) r p

module _ (n : ℕ) (g : List ℕ) where
  -- nothing is found exactly where every entry is fine
  pub entries_fine : entries n g ≡ Ok tt → (i j : ℕ) → i < n → j < n → entry n g i j ≡ Ok tt
  unfolding entries
  entries_fine = grid_fine n (entry n g)

  pub fine_entries : ((i j : ℕ) → i < n → j < n → entry n g i j ≡ Ok tt) → entries n g ≡ Ok tt
  unfolding entries
  fine_entries = fine_grid n (entry n g)

  -- 3 or 4 is given exactly at the first entry at fault
  pub entries_fault : {r : Refusal} → entries n g ≡ Err r → AtFault n (entry n g) r
  unfolding entries
  entries_fault = grid_fault n (entry n g) (entry_own n g)

  pub fault_entries : {r : Refusal} → AtFault n (entry n g) r → entries n g ≡ Err r
  unfolding entries
  fault_entries = fault_grid n (entry n g)

  -- of a matrix with no fault: its entries are 0 or 1, 0 on the diagonal, and equal to their mirrors
  module _ (ok : entries n g ≡ Ok tt) where
    pub entries_small : (i j : ℕ) → i < n → j < n → value n g i j ≤ 1
    entries_small i j l l' = good_small n g i j (verdict_fine (verdict n g i j) (entries_fine ok i j l l')).0

    pub entries_diagonal : (i : ℕ) → i < n → value n g i i ≡ 0
    entries_diagonal i l = good_diagonal n g i i (verdict_fine (verdict n g i i) (entries_fine ok i i l l)).0 refl

    pub entries_mirrored : (i j : ℕ) → i < n → j < n → value n g i j ≡ value n g j i
    entries_mirrored i j l l' = (verdict_fine (verdict n g i j) (entries_fine ok i j l l')).1

-- an edge is an entry 1 between vertices
pub edge_value : (n : ℕ) (g : List ℕ) (i j : ℕ) → edge n g i j ≡ true → (i < n) × (j < n) × (value n g i j ≡ 1)
unfolding edge
edge_value n g i j p =
    let w = and_left (ltb i n && ltb j n) (eqb (value n g i j) 1) p in (
      ltb-true i n (and_left (ltb i n) (ltb j n) w),
      ltb-true j n (and_right (ltb i n) (ltb j n) w),
      eqb-true (value n g i j) 1 (and_right (ltb i n && ltb j n) (eqb (value n g i j) 1) p),
    )

pub value_edge : (n : ℕ) (g : List ℕ) (i j : ℕ) → i < n → j < n → value n g i j ≡ 1 → edge n g i j ≡ true
unfolding edge
value_edge n g i j l l' p = and_in (and_in (lt-ltb i n l) (lt-ltb j n l')) (eq-eqb (value n g i j) 1 p)

-- a matrix with no fault is a graph
pub entries_graph : (n : ℕ) (g : List ℕ) → entries n g ≡ Ok tt → IsGraph n (edge n g)
entries_graph n g ok = record { inside = inside; loopless = loopless; mirrored = mirrored }
  where
    inside : (i j : ℕ) → edge n g i j ≡ true → (i < n) × (j < n)
    inside i j p = let (l, l', v) = edge_value n g i j p in (l, l')

    loopless : (i : ℕ) → edge n g i i ≡ false
    loopless i =
        fails
        (λ p.
        let (l, l', v) = edge_value n g i i p in
        let z = entries_diagonal n g ok i l in
        omega arith)

    turned : (i j : ℕ) → edge n g i j ≡ true → edge n g j i ≡ true
    turned i j p =
        let (l, l', v) = edge_value n g i j p in
        value_edge n g j i l' l (sym (entries_mirrored n g ok i j l l') ∙ v)

    mirrored : (i j : ℕ) → edge n g i j ≡ edge n g j i
    mirrored i j = same (turned i j) (turned j i)
