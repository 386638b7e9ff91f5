-- `write` meets its contract: the checks in turn, then the sheet. Assumes nothing.
use Rattle.std.proofs.Common.{rules, ◌≡◌, Err}
use mir.Syntax.{w16}
use mir.ValLaws.{to_z-of_z}
use native.Mathlib.Omega.{arith}
use Rattle.scores.proofs.Writings.{refused_write, refused_room, wrote}
use Rattle.scores.proofs.write.Goals as goal

pub returns-in_err-scores : goal.returns-in_err-scores
returns-in_err-scores c =
    let back : c.from_residual.result ≡ Err c.in_err-scores.field-0.0 = search rules in
    let told = rw (to_z-of_z w16 c.args.t c.ranges.t) at c.in_err-scores.ensures.refused in
    rw back (refused_write c.args.notes.now c.args.scores.now c.args.n c.args.t c.args.buf.now told)

pub returns-then-buf-size : goal.returns-then-buf-size
returns-then-buf-size c =
    let right = rw (to_z-of_z w16 c.args.t c.ranges.t) at c.in_ok-scores.ensures.refused in
    let size = c.length_of-size.ensures in
    refused_room c.args.notes.now c.args.scores.now c.args.n c.args.t c.args.buf.now right (omega arith)

pub returns : goal.returns
returns c =
    let s = c.in_ok-scores.ensures in
    let t = to_z-of_z w16 c.args.t c.ranges.t in
    let right = rw t at s.refused in
    let put = rw (s.same.0, s.same.1) at c.put_sheet.ensures in
    wrote c.args.notes.now c.args.scores.now c.args.n c.args.t c.args.buf.now right c.length_of-size.ensures c.if-buf-size.false t put
