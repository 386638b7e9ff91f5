-- `memory::table::restore` meets its contract. The loop's invariant: the table differs from the first one at most at the
-- places that are still to come. Assumes nothing.
use Rattle.std.proofs.Common.{◌≡◌, length, drop, List}
use Rattle.memory.specs.Table.{Olds, Apart}
use Rattle.memory.proofs.table.restore.Given as goal

abbrev pub invariant-loop-p : goal.invariant-loop-p
invariant-loop-p l =
    (length l.cost ≡ length l.initial.cost) ×
    ((first : List _) → Olds first l.fn.places l.fn.old → Apart l.fn.places first l.initial.cost →
    Apart (drop (length l.yielded) l.fn.places) first l.cost)
