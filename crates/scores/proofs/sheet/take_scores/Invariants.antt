-- `take_scores` meets its contract. The loop's invariant: the first `k` scores are taken. Assumes nothing.
use lib.Seq.{paste}
use mathlib.Core.Path.{◌≡◌}
use Rattle.scores.specs.Inner.{scores_in}
use Rattle.scores.proofs.sheet.take_scores.Given as goal

abbrev pub invariant-loop-k : goal.invariant-loop-k
invariant-loop-k l =
    l.s-items ≡ paste l.initial.s-items 0 (scores_in l.sheet l.p l.n) l.k
