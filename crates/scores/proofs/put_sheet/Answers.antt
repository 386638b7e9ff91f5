-- `put_sheet` meets its contract: notes, scores and trailer, each part lent on behind the last. Assumes nothing.
use mir.Syntax.{w16}
use mir.ValLaws.{to_z-of_z}
use Rattle.scores.proofs.Writings.{sheet_put}
use Rattle.scores.proofs.put_sheet.Goals as goal

pub returns : goal.returns
returns c =
    let l = c.args.scores.now in
    sheet_put c.args.buf.now c.args.notes.now l.list.now l.n l.all c.requires.room (to_z-of_z w16 c.args.t c.ranges.t)
    c.put_notes.ensures c.put_scores.ensures c.put_trailer.ensures
