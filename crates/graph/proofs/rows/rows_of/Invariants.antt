-- `graph::rows::rows_of` meets its contract. The loop's invariant: the rows below `i` are made, the others are clear.
-- Assumes nothing.
use Rattle.graph.specs.Graph.{edge}
use Rattle.graph.proofs.RowLaws.{Begun}
use Rattle.graph.proofs.rows.rows_of.Given as goal

abbrev pub invariant-loop-i : goal.invariant-loop-i
invariant-loop-i l =
    Begun (edge l.n l.g) l.i l.rows
