-- `search::check` meets its contract: the checks in their order, or none finds anything. Assumes nothing.
use Rattle.std.proofs.Common.{rules, ◌≡◌, Err, sym, ◌∙◌, arith}
use Rattle.search.specs.Memory.{pairs}
use Rattle.search.proofs.Refusing.{many_refused, graph_refused, prices_refused, entries_refused, priced_refused, large_refused, short_refused, all_pass}
use Rattle.search.proofs.check.Goals as goal

pub returns-then-n-gt128 : goal.returns-then-n-gt128
returns-then-n-gt128 c = many_refused _ _ _ _ _ c.if-n-gt128.true

pub returns-then-graph-n : goal.returns-then-graph-n
returns-then-graph-n c = graph_refused _ _ _ _ _ c.if-n-gt128.false c.if-graph-n.true

pub returns-then-prices-n : goal.returns-then-prices-n
returns-then-prices-n c = prices_refused _ _ _ _ _ c.if-n-gt128.false c.if-graph-n.false c.if-prices-n.true

pub returns-in_err-entries_of : goal.returns-in_err-entries_of
returns-in_err-entries_of c =
    let back : c.from_residual.result ≡ Err c.in_err-entries_of.field-0.0 = search rules in
    back ∙
    entries_refused _ _ _ _ _ c.if-n-gt128.false c.if-graph-n.false c.if-prices-n.false (sym c.entries_of.ensures ∙ c.in_err-entries_of.was)

pub returns-in_err-price_entries : goal.returns-in_err-price_entries
returns-in_err-price_entries c =
    let back : c.from_residual-in_err-price_entries.result ≡ Err c.in_err-price_entries.field-0.0 = search rules in
    back ∙
    priced_refused _ _ _ _ _ c.if-n-gt128.false c.if-graph-n.false c.if-prices-n.false
    (sym c.entries_of.ensures ∙ c.in_ok-entries_of.was) (sym c.price_entries.ensures ∙ c.in_err-price_entries.was)

pub returns-then-k-gt81280000 : goal.returns-then-k-gt81280000
returns-then-k-gt81280000 c =
    large_refused _ _ _ _ _ c.if-n-gt128.false c.if-graph-n.false c.if-prices-n.false
    (sym c.entries_of.ensures ∙ c.in_ok-entries_of.was) (sym c.price_entries.ensures ∙ c.in_ok-price_entries.was) c.if-k-gt81280000.true

pub returns-then-list-pairs_of : goal.returns-then-list-pairs_of
unfolding pairs
returns-then-list-pairs_of c =
    short_refused _ _ _ _ _ c.if-n-gt128.false c.if-graph-n.false c.if-prices-n.false
    (sym c.entries_of.ensures ∙ c.in_ok-entries_of.was) (sym c.price_entries.ensures ∙ c.in_ok-price_entries.was) c.if-k-gt81280000.false
    (omega (arith, c.pairs_of.ensures, c.if-list-pairs_of.true))

pub returns : goal.returns
unfolding pairs
returns c =
    all_pass _ _ _ _ _ c.if-n-gt128.false c.if-graph-n.false c.if-prices-n.false
    (sym c.entries_of.ensures ∙ c.in_ok-entries_of.was) (sym c.price_entries.ensures ∙ c.in_ok-price_entries.was) c.if-k-gt81280000.false
    (omega (arith, c.pairs_of.ensures, c.if-list-pairs_of.false))
