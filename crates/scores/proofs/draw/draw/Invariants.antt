-- `draw` meets its contract. The loops' invariants: the entries before row `i`, and those of row `i` before column `j`, are written.
-- Assumes nothing.
use Prim.Native.Nat.{◌+◌, ◌*◌}
use lib.Seq.{paste}
use mathlib.Core.Path.{◌≡◌}
use Rattle.scores.specs.Scale.{edge_byte, price_entry, square}
use Rattle.scores.proofs.draw.draw.Given as goal

abbrev pub invariant-loop-j : goal.invariant-loop-j
invariant-loop-j l =
    (l.graph ≡ paste l.fn.graph 0 (square l.scores.n (edge_byte l.scores.n l.t l.scores.list.now)) (l.i * l.scores.n + l.j))
    × (l.prices ≡ paste l.fn.prices 0 (square l.scores.n (price_entry l.scores.n l.t l.scores.list.now)) (l.i * l.scores.n + l.j))

abbrev pub invariant-loop-i : goal.invariant-loop-i
invariant-loop-i l =
    (l.graph ≡ paste l.fn.graph 0 (square l.scores.n (edge_byte l.scores.n l.t l.scores.list.now)) (l.i * l.scores.n))
    × (l.prices ≡ paste l.fn.prices 0 (square l.scores.n (price_entry l.scores.n l.t l.scores.list.now)) (l.i * l.scores.n))
