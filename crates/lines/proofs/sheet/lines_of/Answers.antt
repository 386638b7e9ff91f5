-- `lines_of` meets its contract: the input's length, then the reader's answer taken apart. Assumes nothing.
use lib.ListN.{length-replicate}
use lib.IntN.{ℤ, pos}
use mathlib.Core.Path.{refl}
use mir.Syntax.{w16}
use mir.ValLaws.{to_z-of_z}
use Rattle.scores.proofs.OnScale.{on_fits}
use Rattle.lines.proofs.Taking.{long_paged, refusal_paged, listed_right, listed_paged}
use Rattle.lines.proofs.sheet.lines_of.Goals as goal

pub returns-then-sheet-gt49032 : goal.returns-then-sheet-gt49032
returns-then-sheet-gt49032 c =
    long_paged c.args.sheet.now c.if-sheet-gt49032.true c.refused.ensures

pub returns-in_default : goal.returns-in_default
returns-in_default c =
    refusal_paged c.args.sheet.now c.if-sheet-gt49032.false _ (length-replicate {A = ℤ} 8128 (pos 0)) c.read-read.ensures c.unwrap_err.ensures c.refused-in_default.ensures

pub listed-requires : goal.listed-requires
listed-requires c =
    let right = listed_right c.args.sheet.now c.if-sheet-gt49032.false _ (length-replicate {A = ℤ} 8128 (pos 0)) c.read-read.ensures c.in-Ok.is refl c.read-read.auto.scores in
    let t = to_z-of_z w16 c.in-Ok.field-0.t (on_fits c.in-Ok.field-0.t right.1.0) in
    let all = listed_right c.args.sheet.now c.if-sheet-gt49032.false _ (length-replicate {A = ℤ} 8128 (pos 0)) c.read-read.ensures c.in-Ok.is t c.read-read.auto.scores in
    record {
      n_bound = all.0;
      t_value = all.1;
      empty = c.requires;
    }

pub returns : goal.returns
returns c =
    let right = listed_right c.args.sheet.now c.if-sheet-gt49032.false _ (length-replicate {A = ℤ} 8128 (pos 0)) c.read-read.ensures c.in-Ok.is refl c.read-read.auto.scores in
    let t = to_z-of_z w16 c.in-Ok.field-0.t (on_fits c.in-Ok.field-0.t right.1.0) in
    listed_paged c.args.sheet.now c.if-sheet-gt49032.false _ (length-replicate {A = ℤ} 8128 (pos 0)) c.read-read.ensures c.in-Ok.is t c.listed.ensures
