use Rattle.std.proofs.Common.{rules, ◌≡◌, Err}
use mathlib.Core.Path.{sym, ◌∙◌}
use Rattle.graph.proofs.Refusals.{first_of_single}
use Rattle.graph.proofs.CheckLaws.{quiet_next, found_here, quiet_end}
use Rattle.graph.proofs.check.row_by_row.Goals as goal

pub returns-in_err-check : goal.returns-in_err-check
returns-in_err-check g c f h =
    let found = h _ _ _ c.loop-i-test.true c.loop-j-test.true c.in_err-check.ensures in
    let back : c.from_residual.result ≡ Err c.in_err-check.field-0.0 = search rules in
    let line =
    found_here _ _ _ c.loop-j-test.true (c.loop-j.invariant f h) (back ∙ found ∙ sym (first_of_single _)) back
    in
    found_here _ _ _ c.loop-i-test.true (c.loop-i.invariant f h) line back

pub loop-j-preserved : goal.loop-j-preserved
loop-j-preserved g c f h =
    let found = h _ _ _ c.loop-i-test.true c.loop-j-test.true c.in_ok-check.ensures in
    quiet_next _ _ (c.loop-j.invariant f h) (first_of_single _ ∙ sym found)

pub loop-i-preserved : goal.loop-i-preserved
loop-i-preserved g c f h =
    quiet_next _ _ (c.loop-i.invariant f h) (sym (quiet_end _ _ _ c.loop-j-test.false (c.loop-j.invariant f h)))

pub returns : goal.returns
returns g c f h = quiet_end _ _ _ c.loop-i-test.false (c.loop-i.invariant f h)
