-- `laid_out` meets its contract: the checks 11, 1 and 11 in turn. Assumes nothing.
use native.Mathlib.Omega.{arith}
use mathlib.Core.Path.{sym, ◌∙◌, ap}
use Rattle.scores.proofs.Sheets.{no_trailer, size_off, layout_off, laid_out, too_much, other_length, right_length}
use Rattle.scores.specs.Reader.{wrong_layout}
use Rattle.scores.specs.declared.Trailer.{Trailer}
use Rattle.scores.proofs.sheet.laid_out.Goals as goal
use Rattle.scores.proofs.sheet.laid_out.Goals.{
  then-trailer-gt32768-via-then-trailer-gt32768,
  then-trailer-gt32768-via-else-trailer-gt32768+then-sheet-length_of,
}

pub returns-then-sheet-lt8-clause-refused : goal.returns-then-sheet-lt8-clause-refused
returns-then-sheet-lt8-clause-refused c =
    no_trailer c.args.sheet.now c.if-sheet-lt8.true

pub returns-then-trailer-gt128-clause-refused : goal.returns-then-trailer-gt128-clause-refused
returns-then-trailer-gt128-clause-refused c =
    let n = ap (λ (h : Trailer). h.n) c.trailer_of-trailer.ensures in
    size_off c.args.sheet.now c.if-sheet-lt8.false (omega arith)

pub returns-then-trailer-gt32768-clause-refused : goal.returns-then-trailer-gt32768-clause-refused
returns-then-trailer-gt32768-clause-refused c =
    let h = c.trailer_of-trailer.result in
    let e = c.trailer_of-trailer.ensures in
    let n = ap (λ (x : Trailer). x.n) e in
    let same = sym (ap (λ (x : Trailer). wrong_layout c.args.sheet.now x.p x.n) e) in
    layout_off c.args.sheet.now c.if-sheet-lt8.false (omega arith)
    (same ∙ (elim c.then-trailer-gt32768.branch [
      | then-trailer-gt32768-via-then-trailer-gt32768 w ↦ too_much c.args.sheet.now h.p h.n w.if-trailer-gt32768.true
      | then-trailer-gt32768-via-else-trailer-gt32768+then-sheet-length_of w ↦
          other_length c.args.sheet.now h.p h.n (λ l. w.if-sheet-length_of.true (l ∙ sym w.length_of.ensures))
    ]))

pub returns-clause-refused : goal.returns-clause-refused
returns-clause-refused c =
    let h = c.trailer_of-trailer.result in
    let e = c.trailer_of-trailer.ensures in
    let n = ap (λ (x : Trailer). x.n) e in
    let same = sym (ap (λ (x : Trailer). wrong_layout c.args.sheet.now x.p x.n) e) in
    let long = c.if-sheet-length_of.false ∙ c.length_of.ensures in
    laid_out c.args.sheet.now c.if-sheet-lt8.false (omega arith) (same ∙ right_length c.args.sheet.now h.p h.n c.if-trailer-gt32768.false long)
