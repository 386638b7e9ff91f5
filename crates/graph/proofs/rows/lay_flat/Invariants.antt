-- `graph::rows::lay_flat` meets its contract. The loop's invariant: the words of the rows below `i` are copied.
-- Assumes nothing.
use Rattle.graph.proofs.WordLaws.{Copied}
use Rattle.graph.proofs.rows.lay_flat.Given as goal

abbrev pub invariant-loop-i : goal.invariant-loop-i
invariant-loop-i l =
    Copied l.fn.rows l.i l.words
