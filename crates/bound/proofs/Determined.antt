-- The contracts determine what the public functions answer: `bound` by its promise (Answers), `within`, `cut` and
-- `price_entries` by one equation each, and `costs` since a table is known by its entries. Assumes nothing.
use mathlib.Core.Path.{◌≡◌, sym, ◌∙◌}
use mathlib.Core.List.{List}
use Prim.Native.Nat.{ℕ}
use native.Mathlib.Omega.{arith}
use lib.Seq.{ext_get_or}
use Rattle.bound.specs.Costs.{Costs}

pub costs_determined : {n : ℕ} {prices a b : List ℕ} → Costs n prices a → Costs n prices b → a ≡ b
costs_determined {n} {prices} {a} {b} A B =
    ext_get_or 0 a b (A.many ∙ sym B.many) (λ p h.
    let l = A.many in
    A.each p (omega arith) ∙ sym (B.each p (omega arith)))
