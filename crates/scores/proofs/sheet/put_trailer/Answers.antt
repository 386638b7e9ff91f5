-- `put_trailer` meets its contract: p, n and t, part behind part. Assumes nothing.
use Rattle.std.proofs.Common.{rules}
use mathlib.Core.Path.{◌∙◌, ap}
use mir.Syntax.{w16}
use mir.ValLaws.{to_z-of_z}
use Rattle.scores.proofs.Puts.{four_bytes, put_all}
use Rattle.scores.specs.Sheet.{low_first, signed_bytes}
use Rattle.scores.proofs.sheet.put_trailer.Goals as goal

pub returns : goal.returns
unfolding signed_bytes low_first
returns c =
    let p = c.copy_from_slice.ensures.after ∙ c.to_le_bytes.ensures ∙ four_bytes c.args.trailer.p in
    let n = c.copy_from_slice-2.ensures.after ∙ c.to_le_bytes-2.ensures in
    let t = c.copy_from_slice-3.ensures.after ∙ c.to_le_bytes-3.ensures ∙ ap signed_bytes (to_z-of_z w16 c.args.trailer.t (search rules)) in
    put_all c.args.buf.now c.args.trailer.p c.args.trailer.n c.args.trailer.t p n t
