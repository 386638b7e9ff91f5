-- A call's checks, one after another: a row that holds is the answer, one that does not is passed over. Assumes nothing.
use mathlib.Core.Path.{◌≡◌, sym, ◌∙◌}
use mathlib.Core.Bool.{Bool, true, false}
use mathlib.Core.List.{List, [], ◌∷◌, ◌++◌}
use Rattle.std.specs.Prelude.{Ok, Err}
use Rattle.graph.specs.declared.Refusal.{Refusal}
use Rattle.graph.specs.Refusal.{Finding, row, first_of}
use Rattle.graph.proofs.Leading.{append_nothing, fault_not_fine, first_of_leading}
use Rattle.graph.proofs.Refusals.{first_of_next, first_of_here, first_of_single, row_holds, row_passes, row_fine}

pub hit : {b : Bool} (r : Refusal) (xs : List Finding) → b ≡ true → Err r ≡ first_of (row r b ∷ xs)
hit {b} r xs p = sym (first_of_here (row r b) xs (row_holds r p))

pub pass : {b : Bool} (r : Refusal) (xs : List Finding) → b ≡ false → first_of xs ≡ first_of (row r b ∷ xs)
pass {b} r xs p = sym (first_of_next (row r b) xs (row_passes r p))

pub done : Ok tt ≡ first_of []
done = sym first_of_leading.empty

-- where nothing is found, the first check is fine, and what is behind it
pub fine_first : (x : Finding) (xs : List Finding) → Ok tt ≡ first_of (x ∷ xs) → (Ok tt ≡ x) × (Ok tt ≡ first_of xs)
fine_first x xs e =
    let both = append_nothing first_of_leading (x ∷ []) xs (sym e) in
    (sym both.0 ∙ first_of_single x, sym both.1)

pub fine_out : (r : Refusal) (b : Bool) (xs : List Finding) → Ok tt ≡ first_of (row r b ∷ xs) → (b ≡ false) × (Ok tt ≡ first_of xs)
fine_out r b xs e =
    let both = fine_first (row r b) xs e in
    (row_fine r b (sym both.0), both.1)

-- the first checks of a call decide where they find something, else the others
pub decided : {x : Finding} {r : Refusal} (xs ys : List Finding) → x ≡ Err r → x ≡ first_of xs → x ≡ first_of (xs ++ ys)
decided xs ys told e = e ∙ sym (first_of_leading.stays xs ys (λ q. fault_not_fine (sym told ∙ e ∙ q)))

pub left_over : (xs ys : List Finding) → Ok tt ≡ first_of xs → first_of ys ≡ first_of (xs ++ ys)
left_over xs ys e = sym (first_of_leading.skips xs ys (sym e))
