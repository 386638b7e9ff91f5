-- `bound::bound` meets its contract: the refusals in their order, and the packing of the graph by itself. Assumes nothing.
use Rattle.std.proofs.Common.{rules, ◌≡◌, Err}
use mathlib.Core.Path.{sym, ◌∙◌}
use Rattle.bound.proofs.Answers.{refuses, many_refused, graph_refused, prices_refused, entries_refused, priced_refused, all_pass}
use Rattle.bound.proofs.bound.Goals as goal

pub returns-then-n-gt128 : goal.returns-then-n-gt128
returns-then-n-gt128 c =
    refuses _ _ _ (many_refused _ _ _ c.if-n-gt128.true)

pub returns-then-g-n : goal.returns-then-g-n
returns-then-g-n c =
    refuses _ _ _ (graph_refused _ _ _ c.if-n-gt128.false c.if-g-n.true)

pub returns-then-prices-n : goal.returns-then-prices-n
returns-then-prices-n c =
    refuses _ _ _ (prices_refused _ _ _ c.if-n-gt128.false c.if-g-n.false c.if-prices-n.true)

pub returns-in_err-entries_of : goal.returns-in_err-entries_of
returns-in_err-entries_of c =
    let back : c.from_residual.result ≡ Err c.in_err-entries_of.field-0.0 = search rules in
    rw back
    (refuses _ _ _
    (entries_refused _ _ _ c.if-n-gt128.false c.if-g-n.false c.if-prices-n.false
    (sym c.entries_of.ensures ∙ c.in_err-entries_of.was)))

pub returns-in_err-price_entries : goal.returns-in_err-price_entries
returns-in_err-price_entries c =
    let back : c.from_residual-in_err-price_entries.result ≡ Err c.in_err-price_entries.field-0.0 = search rules in
    rw back
    (refuses _ _ _
    (priced_refused _ _ _ c.if-n-gt128.false c.if-g-n.false c.if-prices-n.false
    (sym c.entries_of.ensures ∙ c.in_ok-entries_of.was) (sym c.price_entries.ensures ∙ c.in_err-price_entries.was)))

pub returns : goal.returns
returns c =
    all_pass _ _ _ c.if-n-gt128.false c.if-g-n.false c.if-prices-n.false
    (sym c.entries_of.ensures ∙ c.in_ok-entries_of.was)
    (sym c.price_entries.ensures ∙ c.in_ok-price_entries.was) c.packing_of.ensures
