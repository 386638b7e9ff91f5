-- `put_scores` meets its contract. The loop's invariant: the first `k` scores are written, two bytes each. Assumes nothing.
use Prim.Native.Nat.{◌*◌}
use lib.ListN.{take, drop}
use mathlib.Core.List.{◌++◌}
use mathlib.Core.Path.{◌≡◌}
use Rattle.scores.specs.Sheet.{score_bytes}
use Rattle.scores.proofs.sheet.put_scores.Given as goal

abbrev pub invariant-loop-k : goal.invariant-loop-k
invariant-loop-k l = l.buf ≡ score_bytes (take l.k l.scores) ++ drop (2 * l.k) l.initial.buf
