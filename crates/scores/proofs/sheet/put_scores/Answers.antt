use Rattle.std.proofs.Common.{rules}
use lib.IntN.{ℤ, pos}
use lib.ListN.{get_or}
use mathlib.Core.Path.{refl, ◌∙◌, ap}
use mir.Syntax.{w16}
use mir.ValLaws.{to_z-of_z}
use native.Mathlib.Omega.{arith}
use Rattle.scores.proofs.Puts.{one_score}
use Rattle.scores.specs.Sheet.{low_first, score_bytes, signed_bytes}
use Rattle.scores.proofs.sheet.put_scores.Goals as goal

pub loop-k-init : goal.loop-k-init
unfolding score_bytes
loop-k-init c = refl

pub loop-k-preserved : goal.loop-k-preserved
unfolding signed_bytes low_first
loop-k-preserved c =
    let z : ℤ = get_or c.args.scores.now c.loop-k.k (pos 0) in
    let bytes = c.copy_from_slice.ensures.after ∙ c.to_le_bytes.ensures ∙ ap signed_bytes (to_z-of_z w16 z (search rules)) in
    one_score c.args.buf.now c.args.scores.now c.loop-k.k c.loop-k-test.true c.loop-k.invariant bytes (omega arith)
