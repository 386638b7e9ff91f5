use Rattle.std.proofs.Common.{◌*◌, ◌≤◌}
use Rattle.reports.proofs.paths.Given as goal

abbrev pub invariant-loop-i : goal.invariant-loop-i
invariant-loop-i g l = l.at ≤ 128 * l.i
