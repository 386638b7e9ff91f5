-- `drawn` meets its contract: what is drawn passes the checks of the search. Assumes nothing.
use mir.Syntax.{w16}
use mir.ValLaws.{to_z-of_z}
use Rattle.lines.proofs.Drawing.{not_refused, checked, drawn_paged}
use Rattle.lines.proofs.sheet.drawn.Goals as goal

pub unreachable-requires : goal.unreachable-requires
unreachable-requires c =
    not_refused c.args.n c.args.t c.args.scores.now c.args.graph.now c.args.prices.now c.requires.ready (to_z-of_z w16 c.args.t c.ranges.t) c.to_graph.ensures c.in_default.is

pub searched-requires : goal.searched-requires
searched-requires c =
    record {
      checked = checked c.args.n c.args.t c.args.scores.now c.args.graph.now c.args.prices.now c.requires.ready (to_z-of_z w16 c.args.t c.ranges.t) c.to_graph.ensures;
      empty = c.requires.empty;
    }

pub returns : goal.returns
returns c =
    drawn_paged c.args.n c.args.t c.args.scores.now c.args.graph.now c.args.prices.now c.requires.ready (to_z-of_z w16 c.args.t c.ranges.t) c.to_graph.ensures c.searched.ensures
