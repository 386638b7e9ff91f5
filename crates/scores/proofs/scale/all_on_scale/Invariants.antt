-- `all_on_scale` meets its contract. The loops' invariants: the scores above row `i`, and those of row `i` before column `j`, are on
-- the scale, whatever list `score` gives the scores of. Assumes nothing.
use Rattle.std.proofs.Common.{◌≡◌, ℕ, List, ◌<◌, get_or, ℤ, pos}
use Rattle.scores.proofs.ScoreFaults.{RowsOn, RowOn}
use Rattle.scores.specs.Scale.{half}
use Rattle.scores.proofs.scale.all_on_scale.Given as goal

abbrev pub invariant-loop-j : goal.invariant-loop-j
invariant-loop-j g l =
    (xs : List ℤ) → ((k : ℕ) (s : ℤ) → k < half l.n → goal.F-post g l.score k s → s ≡ get_or xs k (pos 0)) → RowOn l.n xs l.i l.j

abbrev pub invariant-loop-i : goal.invariant-loop-i
invariant-loop-i g l =
    (xs : List ℤ) → ((k : ℕ) (s : ℤ) → k < half l.n → goal.F-post g l.score k s → s ≡ get_or xs k (pos 0)) → RowsOn l.n xs l.i
