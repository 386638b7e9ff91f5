-- `entry` meets its contract: diagonal 0, else by the score of the pair. Assumes nothing.
use mathlib.Core.Path.{sym, ◌∙◌}
use mir.Syntax.{w16}
use mir.ValLaws.{to_z-of_z}
use Rattle.scores.proofs.Complement.{back}
use Rattle.scores.proofs.Entries.{edge_diagonal, price_diagonal, edge_apart, price_apart}
use Rattle.scores.proofs.draw.entry.Goals as goal

pub returns-then-i-j : goal.returns-then-i-j
returns-then-i-j c =
    let l = c.args.scores.now in
    let e = c.if-i-j.true in
    record { edge = edge_diagonal l.n c.args.t l.list.now _ _ e; price = price_diagonal l.n c.args.t l.list.now _ _ e }

pub returns : goal.returns
returns c =
    let l = c.args.scores.now in
    let t = to_z-of_z w16 c.args.t c.ranges.t in
    let s = back c.at-s.result c.at-s.type_inv ∙ c.at-s.ensures in
    record {
      edge = c.from.ensures ∙ edge_apart l.n c.args.t l.list.now _ _ c.if-i-j.false _ _ s t _ (sym c.is_edge.ensures);
      price = c.price.ensures ∙ price_apart l.n c.args.t l.list.now _ _ c.if-i-j.false _ _ s t;
    }
