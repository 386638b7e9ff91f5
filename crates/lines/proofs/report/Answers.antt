-- `report` meets its contract: the lines are made on a page of its own, and then copied where there is room. Assumes nothing.
use mathlib.Core.Path.{sym, ap, subst}
use mathlib.Core.List.{◌++◌}
use lib.ListN.{length, drop}
use Rattle.lines.specs.Report.{Lines}
use Rattle.lines.proofs.Answers.{too_short_lem, written}
use Rattle.lines.proofs.report.Goals as goal

pub returns-then-text-size : goal.returns-then-text-size
returns-then-text-size c =
    too_short_lem c.args.sheet.now _ (subst (Lines c.args.sheet.now) (sym c.written-lines.ensures) c.lines_of.ensures)
    c.args.text.now c.if-text-size.true

pub returns : goal.returns
returns c =
    written c.args.sheet.now _ (subst (Lines c.args.sheet.now) (sym c.written-lines.ensures) c.lines_of.ensures)
    c.args.text.now c.if-text-size.false
    (ap (λ l. l ++ drop (length c.written-lines.result.now) c.args.text.now) c.copy_from_slice.ensures.after)
