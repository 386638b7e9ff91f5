-- `graph::rows::word_of` meets its contract. The loop's invariant: the bits below `k` are the edges, the rest is clear.
-- Assumes nothing.
use Prim.Native.Nat.{◌+◌}
use Rattle.graph.specs.Graph.{edge}
use Rattle.graph.proofs.RowLaws.{Part}
use Rattle.graph.proofs.rows.word_of.Given as goal

abbrev pub invariant-loop-k : goal.invariant-loop-k
invariant-loop-k l =
    Part (λ b. edge l.n l.g l.i (l.off + b)) l.k l.w
