-- `graph::check::row_by_row` meets its contract. The loops' invariants: whatever f says what the check finds, nothing is found
-- in the rows before `i`, and nothing in row i before `j`. Assumes nothing.
use Rattle.std.proofs.Common.{◌≡◌, ℕ, [], ◌∷◌, ◌<◌}
use Rattle.graph.specs.Each.{each}
use Rattle.graph.specs.Refusal.{Finding}
use Rattle.graph.proofs.CheckLaws.{Quiet}
use Rattle.graph.proofs.check.row_by_row.Given as goal

abbrev pub invariant-loop-j : goal.invariant-loop-j
invariant-loop-j g l =
    (f : ℕ → ℕ → Finding) →
    ((i j : ℕ) (r : Finding) → i < l.n → j < l.n → goal.F-post g l.check i j r → r ≡ f i j) →
    Quiet (λ b. f l.i b ∷ []) l.j

abbrev pub invariant-loop-i : goal.invariant-loop-i
invariant-loop-i g l =
    (f : ℕ → ℕ → Finding) →
    ((i j : ℕ) (r : Finding) → i < l.n → j < l.n → goal.F-post g l.check i j r → r ≡ f i j) →
    Quiet (λ a. each l.n (λ b. f a b ∷ [])) l.i
