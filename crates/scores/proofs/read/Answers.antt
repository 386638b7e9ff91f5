-- `read` meets its contract: the checks in turn, then the scores. Assumes nothing.
use Rattle.std.proofs.Common.{rules, ◌≡◌, Err}
use mathlib.Core.Path.{◌∙◌, ap}
use native.Mathlib.Omega.{arith}
use Rattle.scores.proofs.Readings.{refused_sheet, refused_room, read_all}
use Rattle.scores.proofs.Sheets.{sound}
use Rattle.scores.specs.Scale.{half}
use Rattle.scores.specs.declared.Trailer.{Trailer}
use Rattle.scores.proofs.read.Goals as goal

pub returns-in_err-trailer : goal.returns-in_err-trailer
returns-in_err-trailer c =
    let back : c.from_residual.result ≡ Err c.in_err-trailer.field-0.0 = search rules in
    rw back (refused_sheet c.args.sheet.now c.args.scores.now c.in_err-trailer.ensures.refused)

pub pairs_of-requires : goal.pairs_of-requires
pairs_of-requires c =
    let h = c.in_ok-trailer.ensures in
    omega (arith, (sound c.args.sheet.now h.refused).0.few, ap (λ (x : Trailer). x.n) h.trailer)

pub returns-then-scores-pairs_of : goal.returns-then-scores-pairs_of
returns-then-scores-pairs_of c =
    let h = c.in_ok-trailer.ensures in
    let room = c.pairs_of.ensures ∙ ap (λ (x : Trailer). half x.n) h.trailer in
    refused_room c.args.sheet.now c.args.scores.now h.refused (omega arith)

pub take_scores-requires-clause-n_bound : goal.take_scores-requires-clause-n_bound
take_scores-requires-clause-n_bound c =
    let h = c.in_ok-trailer.ensures in
    omega (arith, (sound c.args.sheet.now h.refused).0.few, ap (λ (x : Trailer). x.n) h.trailer)

pub take_scores-requires-clause-sheet_len : goal.take_scores-requires-clause-sheet_len
take_scores-requires-clause-sheet_len c =
    let h = c.in_ok-trailer.ensures in
    rw h.trailer (sound c.args.sheet.now h.refused).0.long

pub returns : goal.returns
returns c =
    let h = c.in_ok-trailer.ensures in
    let room = c.pairs_of.ensures ∙ ap (λ (x : Trailer). half x.n) h.trailer in
    read_all c.args.sheet.now c.args.scores.now h.refused (omega arith) h.trailer c.take_scores.ensures
