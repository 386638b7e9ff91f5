use Prim.Native.Nat.{ℕ}
use Rattle.scores.proofs.Squares.{square_more}
use Rattle.scores.proofs.draw.draw.Goals as goal

pub loop-j-preserved : goal.loop-j-preserved
loop-j-preserved c =
    let l = c.loop-j in
    let i : ℕ = c.loop-i.i in
    let r = c.requires in
    let e = c.entry-edge.ensures in (
      square_more c.args.scores.now.n _ c.args.graph.now i l.j l.invariant.0 r.graph_room c.loop-i-test.true c.loop-j-test.true e.edge,
      square_more c.args.scores.now.n _ c.args.prices.now i l.j l.invariant.1 r.prices_room c.loop-i-test.true c.loop-j-test.true e.price,
    )
