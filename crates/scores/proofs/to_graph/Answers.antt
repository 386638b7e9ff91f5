-- `to_graph` meets its contract: its checks in turn, then the drawing. Assumes nothing.
use Rattle.std.proofs.Common.{rules, ◌≡◌, Err}
use mir.Syntax.{w16}
use mir.ValLaws.{to_z-of_z}
use Rattle.scores.proofs.Drawings.{count_refused, scale_refused, graph_short, prices_short, drawn}
use Rattle.scores.proofs.to_graph.Goals as goal
use Rattle.scores.proofs.to_graph.Goals.{then-graph-n-via-then-graph-n, then-graph-n-via-else-graph-n+then-prices-n}

pub returns-in_err-scores : goal.returns-in_err-scores
returns-in_err-scores c =
    let back : c.from_residual.result ≡ Err c.in_err-scores.field-0.0 = search rules in
    rw back (count_refused c.args.n c.args.t c.args.scores.now c.args.graph.now c.args.prices.now c.in_err-scores.ensures.refused)

pub returns-in_err-scale_fault : goal.returns-in_err-scale_fault
returns-in_err-scale_fault c =
    let back : c.from_residual-in_err-scale_fault.result ≡ Err c.in_err-scale_fault.field-0.0 = search rules in
    let s = c.in_ok-scores.ensures in
    let told = rw (to_z-of_z w16 c.args.t c.ranges.t, s.same.0, s.same.1) at c.in_err-scale_fault.ensures in
    rw back (scale_refused c.args.n c.args.t c.args.scores.now c.args.graph.now c.args.prices.now s.refused told)

pub returns-then-graph-n : goal.returns-then-graph-n
returns-then-graph-n c =
    let s = c.in_ok-scores.ensures in
    let on = rw (to_z-of_z w16 c.args.t c.ranges.t, s.same.0, s.same.1) at c.in_ok-scale_fault.ensures in
    elim c.then-graph-n.branch [
      | then-graph-n-via-then-graph-n w ↦
          graph_short c.args.n c.args.t c.args.scores.now c.args.graph.now c.args.prices.now s.refused on w.if-graph-n.true
      | then-graph-n-via-else-graph-n+then-prices-n w ↦
          prices_short c.args.n c.args.t c.args.scores.now c.args.graph.now c.args.prices.now s.refused on w.if-graph-n.false w.if-prices-n.true
    ]

pub returns : goal.returns
returns c =
    let s = c.in_ok-scores.ensures in
    let t = to_z-of_z w16 c.args.t c.ranges.t in
    let on = rw (t, s.same.0, s.same.1) at c.in_ok-scale_fault.ensures in
    let graph = rw (t, s.same.0, s.same.1) at c.draw.ensures.graph in
    let prices = rw (t, s.same.0, s.same.1) at c.draw.ensures.prices in
    drawn c.args.n c.args.t c.args.scores.now c.args.graph.now c.args.prices.now s.refused on c.if-graph-n.false c.if-prices-n.false graph prices
