-- A finding for each entry of a matrix, "row by row": what the first entry at fault finds, where each entry finds faults at
-- its own place only. Two levels of `each`. Assumes nothing.
use mathlib.Core.Path.{◌≡◌, sym, ◌∙◌, ap, ap₂}
use mathlib.Core.List.{List, [], ◌∷◌}
use Prim.Native.Nat.{ℕ, ◌<◌}
use native.Mathlib.Omega.{arith}
use Rattle.std.specs.Prelude.{Ok, Err}
use Rattle.graph.specs.declared.Refusal.{Refusal}
use Rattle.graph.specs.Each.{each}
use Rattle.graph.specs.Refusal.{Finding, row_at, column_at, first_of}
use Rattle.graph.proofs.Leading.{
  Leads,
  fault_not_fine,
  first_of_leading,
  each_nothing,
  nothing_each,
  each_leads,
  leads_each,
}
use Rattle.graph.proofs.Refusals.{first_of_single}

-- the findings of row i, and of all rows
abbrev pub line : ℕ → (ℕ → ℕ → Finding) → ℕ → List Finding
line n f i = each n (λ j. f i j ∷ [])

abbrev pub grid : ℕ → (ℕ → ℕ → Finding) → List Finding
grid n f = each n (line n f)

-- a fault of entry (i, j) is at (i, j)
abbrev pub OwnPlace : (ℕ → ℕ → Finding) → Type 0
OwnPlace f = (i j : ℕ) (r : Refusal) → f i j ≡ Err r → (row_at r ≡ i) × (column_at r ≡ j)

-- the entry at r's place is at fault, and none before it row by row
pub record AtFault (n : ℕ) (f : ℕ → ℕ → Finding) (r : Refusal) : Type 0 where
  pub row_in : row_at r < n
  pub column_in : column_at r < n
  pub finds : f (row_at r) (column_at r) ≡ Err r
  pub above : (i' j' : ℕ) → i' < row_at r → j' < n → f i' j' ≡ Ok tt
  pub before : (j' : ℕ) → j' < column_at r → f (row_at r) j' ≡ Ok tt

module _ (n : ℕ) (f : ℕ → ℕ → Finding) where
  pub line_fine : (i : ℕ) → first_of (line n f i) ≡ Ok tt → (j : ℕ) → j < n → f i j ≡ Ok tt
  line_fine i p j l = sym (first_of_single (f i j)) ∙ nothing_each first_of_leading n (λ j. f i j ∷ []) p j l

  pub fine_line : (i : ℕ) → ((j : ℕ) → j < n → f i j ≡ Ok tt) → first_of (line n f i) ≡ Ok tt
  fine_line i h = each_nothing first_of_leading n (λ j. f i j ∷ []) (λ j l. first_of_single (f i j) ∙ h j l)

  -- nothing is found exactly where every entry is fine
  pub grid_fine : first_of (grid n f) ≡ Ok tt → (i j : ℕ) → i < n → j < n → f i j ≡ Ok tt
  grid_fine p i j l l' = line_fine i (nothing_each first_of_leading n (line n f) p i l) j l'

  pub fine_grid : ((i j : ℕ) → i < n → j < n → f i j ≡ Ok tt) → first_of (grid n f) ≡ Ok tt
  fine_grid h = each_nothing first_of_leading n (line n f) (λ i l. fine_line i (λ j l'. h i j l l'))

  -- a fault is given exactly where it is the first
  pub fault_grid : {r : Refusal} → AtFault n f r → first_of (grid n f) ≡ Err r
  fault_grid {r} F =
      let i = row_at r in
      each_leads first_of_leading n (line n f) (Err r) fault_not_fine
      (record {
        place = i;
        within = F.row_in;
        says =
            each_leads first_of_leading n (λ j. f i j ∷ []) (Err r) fault_not_fine
            (record {
              place = column_at r;
              within = F.column_in;
              says = first_of_single (f i (column_at r)) ∙ F.finds;
              earlier = λ j' l. first_of_single (f i j') ∙ F.before j' l;
            });
        earlier = λ i' l. fine_line i' (λ j' l'. F.above i' j' l l');
      })

  pub grid_fault : OwnPlace f → {r : Refusal} → first_of (grid n f) ≡ Err r → AtFault n f r
  grid_fault own {r} p =
      let L = leads_each first_of_leading n (line n f) (Err r) fault_not_fine p in
      let M = leads_each first_of_leading n (λ y. f L.place y ∷ []) (Err r) fault_not_fine L.says in
      inner L.place L.within L.earlier M
    where
      inner :
          (x : ℕ) → x < n → ((i' : ℕ) → i' < x → first_of (line n f i') ≡ Ok tt) →
          Leads (Ok tt) first_of (λ y. f x y ∷ []) n (Err r) → AtFault n f r
      inner x l up M =
          let w = own x M.place r (sym (first_of_single (f x M.place)) ∙ M.says) in
          let pi : row_at r ≡ x = w.0 in
          let pj : column_at r ≡ M.place = w.1 in
          record {
            row_in = omega arith;
            column_in = omega (arith, M.within);
            finds = ap₂ f pi pj ∙ sym (first_of_single (f x M.place)) ∙ M.says;
            above = λ i' j' l₁ l₂. line_fine i' (up i' (omega arith)) j' l₂;
            before =
                λ j' l₁.
                ap (λ y. f y j') pi ∙ sym (first_of_single (f x j')) ∙ M.earlier j' (omega arith);
          }
