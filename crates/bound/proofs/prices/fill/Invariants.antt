-- `bound::prices::fill` meets its contract. The loop over the rows: the table is filled up to row i. Assumes nothing.
use Prim.Native.Nat.{◌*◌}
use Rattle.bound.specs.Costs.{Filled}
use Rattle.bound.proofs.prices.fill.Given as goal

abbrev pub invariant-loop-i : goal.invariant-loop-i
invariant-loop-i l =
    Filled l.n l.prices (l.i * 128) l.cost
