-- `checked` meets its contract: the layout, then the scale. Assumes nothing.
use Rattle.std.proofs.Common.{rules, ◌≡◌, Err}
use mathlib.Core.Path.{◌∙◌, ap}
use mir.Syntax.{w16}
use mir.ValLaws.{to_z-of_z}
use native.Mathlib.Omega.{arith}
use Rattle.graph.specs.Refusal.{refusal}
use Rattle.scores.proofs.Sheets.{laid, layout_refused, score_inside, score_listed, scale_told}
use Rattle.scores.specs.Sheet.{scores_of}
use Rattle.scores.specs.declared.Trailer.{Trailer}
use Rattle.scores.proofs.sheet.checked.Goals as goal

pub returns-in_err-trailer-clause-refused : goal.returns-in_err-trailer-clause-refused
returns-in_err-trailer-clause-refused c =
    let back : c.from_residual.result ≡ Err c.in_err-trailer.field-0.0 = search rules in
    ap refusal back ∙ layout_refused c.args.sheet.now c.in_err-trailer.ensures.refused

pub all_on_scale-requires-clause-n_bound : goal.all_on_scale-requires-clause-n_bound
all_on_scale-requires-clause-n_bound c =
    let h = c.in_ok-trailer.ensures in
    omega (arith, (laid c.args.sheet.now h.refused).few, ap (λ (x : Trailer). x.n) h.trailer)

pub all_on_scale-requires-clause-callable : goal.all_on_scale-requires-clause-callable
all_on_scale-requires-clause-callable c k few =
    let h = c.in_ok-trailer.ensures in
    let inside = score_inside c.args.sheet.now h.trailer h.refused few in
    search rules

pub returns-in_err-all_on_scale-clause-refused : goal.returns-in_err-all_on_scale-clause-refused
returns-in_err-all_on_scale-clause-refused c =
    let back : c.from_residual-in_err-all_on_scale.result ≡ Err c.in_err-all_on_scale.field-0.0 = search rules in
    let h = c.in_ok-trailer.ensures in
    let t = to_z-of_z w16 c.in_ok-trailer.trailer.t (search rules) in
    let told = c.in_err-all_on_scale.ensures (scores_of c.args.sheet.now) (λ k s few q.
    score_listed c.args.sheet.now h.trailer few (search rules)) in
    ap refusal back ∙ scale_told c.args.sheet.now h.trailer h.refused t told

pub returns-clause-refused : goal.returns-clause-refused
returns-clause-refused c =
    let h = c.in_ok-trailer.ensures in
    let t = to_z-of_z w16 c.in_ok-trailer.trailer.t (search rules) in
    let told = c.in_ok-all_on_scale.ensures (scores_of c.args.sheet.now) (λ k s few q.
    score_listed c.args.sheet.now h.trailer few (search rules)) in
    scale_told c.args.sheet.now h.trailer h.refused t told
