use mathlib.Core.Path.{sym, ◌∙◌, ap}
use mir.Syntax.{w16}
use mir.ValLaws.{to_z-of_z}
use native.Mathlib.Omega.{arith}
use Rattle.scores.proofs.Places.{half_small, spot_after}
use Rattle.scores.proofs.ScoreFaults.{one_more_on, tried, scores_fine, scores_fault, threshold_fault, scores_next}
use Rattle.scores.specs.Scale.{on_scale}
use Rattle.scores.proofs.scale.all_on_scale.Goals as goal

pub overflow_add-before : goal.overflow_add-before
overflow_add-before g c =
    let k = spot_after c.args.n c.loop-i.i c.loop-j.j (omega arith) (omega arith) c.earlier_of-before.ensures in
    record { fits = omega (arith, k.0, k.1, half_small c.args.n c.requires.n_bound) }

pub score-requires : goal.score-requires
score-requires g c =
    let k = spot_after c.args.n c.loop-i.i c.loop-j.j (omega arith) (omega arith) c.earlier_of-before.ensures in
    c.requires.callable _ (omega (arith, k.0, k.1))

pub returns-then-not-on_scale : goal.returns-then-not-on_scale
returns-then-not-on_scale g c xs is =
    let t = sym (ap on_scale (to_z-of_z w16 c.args.t c.ranges.t)) ∙ sym c.on_scale.ensures in
    threshold_fault c.args.n xs c.args.t (t ∙ c.if-not-on_scale.true)

pub returns-then-not-on_scale-2 : goal.returns-then-not-on_scale-2
returns-then-not-on_scale-2 g c xs is =
    let t = sym (ap on_scale (to_z-of_z w16 c.args.t c.ranges.t)) ∙ sym c.on_scale.ensures in
    let k = spot_after c.args.n c.loop-i.i c.loop-j.j (omega arith) (omega arith) c.earlier_of-before.ensures in
    let s = c.score in
    let here = is _ s.result (omega (arith, k.0, k.1)) s.ensures in
    let off = tried c.args.n xs c.loop-i.i c.loop-j.j k.0 here s.type_inv c.on_scale-in-loop-j.ensures c.if-not-on_scale-2.true in
    scores_next c.args.n xs c.args.t (t ∙ c.if-not-on_scale.false)
    (scores_fault c.args.n xs c.loop-i.i c.loop-j.j (omega arith) (omega arith) (c.loop-i.invariant xs is) (c.loop-j.invariant xs is) off)

pub loop-j-preserved : goal.loop-j-preserved
loop-j-preserved g c xs is =
    let k = spot_after c.args.n c.loop-i.i c.loop-j.j (omega arith) (omega arith) c.earlier_of-before.ensures in
    let s = c.score in
    let here = is _ s.result (omega (arith, k.0, k.1)) s.ensures in
    let on = tried c.args.n xs c.loop-i.i c.loop-j.j k.0 here s.type_inv c.on_scale-in-loop-j.ensures c.if-not-on_scale-2.false in
    one_more_on c.args.n xs c.loop-i.i c.loop-j.j (c.loop-j.invariant xs is) on

pub returns : goal.returns
returns g c xs is =
    let t = sym (ap on_scale (to_z-of_z w16 c.args.t c.ranges.t)) ∙ sym c.on_scale.ensures in
    scores_next c.args.n xs c.args.t (t ∙ c.if-not-on_scale.false) (scores_fine c.args.n xs (λ a b h. c.loop-i.invariant xs is a b (omega arith)))
