-- `bound::Walk::visit` meets its contract: a quad with a used pair leaves all, one without is taken. Assumes nothing.
use mathlib.Core.Path.{sym, ◌∙◌}
use Rattle.bound.proofs.Laying.{visit_idle, visit_past, visit_made}
use Rattle.bound.proofs.Walk.visit.Goals as goal

pub returns-then-touched_of : goal.returns-then-touched_of
returns-then-touched_of c =
    visit_idle _ _ _ _ _ _ _ _ c.requires.ready (sym c.touched_of.ensures ∙ c.if-touched_of.true)

pub returns-then-self-total : goal.returns-then-self-total
returns-then-self-total c =
    visit_past _ _ _ _ _ _ _ _ c.requires.ready (sym c.touched_of.ensures ∙ c.if-touched_of.false)
    c.lay_all-fee.ensures c.if-self-total.true

pub returns : goal.returns
returns c =
    visit_made _ _ _ _ _ _ _ _ c.requires.ready (sym c.touched_of.ensures ∙ c.if-touched_of.false)
    c.lay_all-fee.ensures c.if-self-total.false
