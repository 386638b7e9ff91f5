-- `writable` meets its contract: n and the scores' number, the notes, the scale. Assumes nothing.
use Rattle.std.proofs.Common.{◌≡◌, Err, rules}
use mathlib.Core.Path.{◌∙◌, ap}
use mir.Syntax.{w16}
use mir.ValLaws.{to_z-of_z}
use Rattle.graph.specs.Refusal.{refusal}
use Rattle.scores.proofs.Writings.{count_first, notes_long, scale_decides}
use Rattle.scores.proofs.writable.Goals as goal

pub returns-in_err-scores-clause-refused : goal.returns-in_err-scores-clause-refused
returns-in_err-scores-clause-refused c =
    let back : c.from_residual.result ≡ Err c.in_err-scores.field-0.0 = search rules in
    ap refusal back ∙ count_first c.args.notes.now c.args.scores.now c.args.n c.args.t c.in_err-scores.ensures.refused

pub returns-then-notes-gt32768-clause-refused : goal.returns-then-notes-gt32768-clause-refused
returns-then-notes-gt32768-clause-refused c =
    notes_long c.args.notes.now c.args.scores.now c.args.n c.args.t c.in_ok-scores.ensures.refused c.if-notes-gt32768.true

pub returns-in_err-scale_fault-clause-refused : goal.returns-in_err-scale_fault-clause-refused
returns-in_err-scale_fault-clause-refused c =
    let back : c.from_residual-in_err-scale_fault.result ≡ Err c.in_err-scale_fault.field-0.0 = search rules in
    let s = c.in_ok-scores.ensures in
    let told = rw (to_z-of_z w16 c.args.t c.ranges.t, s.same.0, s.same.1) at c.in_err-scale_fault.ensures in
    ap refusal back ∙ scale_decides c.args.notes.now c.args.scores.now c.args.n c.args.t s.refused c.if-notes-gt32768.false told

pub returns-clause-refused : goal.returns-clause-refused
returns-clause-refused c =
    let s = c.in_ok-scores.ensures in
    let told = rw (to_z-of_z w16 c.args.t c.ranges.t, s.same.0, s.same.1) at c.in_ok-scale_fault.ensures in
    scale_decides c.args.notes.now c.args.scores.now c.args.n c.args.t s.refused c.if-notes-gt32768.false told
