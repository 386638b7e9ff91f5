-- `notes` meets its contract: the first p bytes of a sheet that the reader takes. Assumes nothing.
use lib.ListN.{take}
use lib.Seq.{length-take-le}
use mathlib.Core.Path.{sym, ◌∙◌, ap}
use native.Mathlib.Omega.{arith}
use Rattle.scores.proofs.Readings.{shown_none, shown_all}
use Rattle.scores.proofs.Sheets.{sound}
use Rattle.scores.specs.declared.Trailer.{Trailer}
use Rattle.scores.proofs.notes.Goals as goal

pub slice_bounds-result-end : goal.slice_bounds-result-end
slice_bounds-result-end c =
    let h = c.in-Ok.ensures in
    let p = ap (λ (x : Trailer). x.p) h.trailer in
    sym (length-take-le c.in-Ok.trailer.p c.args.sheet.now (omega (arith, (sound c.args.sheet.now h.refused).0.long)))

pub returns-in-Ok : goal.returns-in-Ok
returns-in-Ok c =
    let h = c.in-Ok.ensures in
    ap (λ (x : Trailer). take x.p c.args.sheet.now) h.trailer ∙ shown_all c.args.sheet.now h.refused

pub returns-in-Err : goal.returns-in-Err
returns-in-Err c = shown_none c.args.sheet.now c.in-Err.ensures.refused
