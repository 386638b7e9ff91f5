-- `mended` meets its contract: the first lines, and the forest of the repaired graph behind them. Assumes nothing.
use mathlib.Core.Path.{◌∙◌, sym, ap, subst}
use mathlib.Core.List.{◌++◌}
use lib.ListN.{length}
use Rattle.graph.specs.Graph.{edge}
use Rattle.graph.specs.Quad.{Clean}
use Rattle.repair.specs.Repair.{toggled}
use Rattle.lines.specs.Lines.{vertices_line, answer_line, change_lines, tree_lines}
use Rattle.lines.proofs.Behind.{room_as, put_as, first_room, then_room, both}
use Rattle.lines.proofs.Mended.{same_edges, mended_fine, mended_long}
use Rattle.lines.proofs.Mending.{listed_inside}
use Rattle.lines.proofs.Drawn.{drawn_long}
use Rattle.lines.proofs.sheet.mended.Goals as goal

pub head-requires : goal.head-requires
head-requires c =
    let head = vertices_line c.args.n ++ answer_line c.args.cost (length c.args.repair.now) c.args.steps in
    let changes = change_lines c.args.n (edge c.args.n c.args.graph.now) c.args.repair.now in
    let trees = tree_lines c.args.n (toggled c.args.n (edge c.args.n c.args.graph.now) c.args.repair.now) in
    first_room c.args.page.now head changes (first_room c.args.page.now (head ++ changes) trees c.requires.repair_in_bounds)

pub changes-requires : goal.changes-requires
changes-requires c =
    let head = vertices_line c.args.n ++ answer_line c.args.cost (length c.args.repair.now) c.args.steps in
    let changes = change_lines c.args.n (edge c.args.n c.args.graph.now) c.args.repair.now in
    let trees = tree_lines c.args.n (toggled c.args.n (edge c.args.n c.args.graph.now) c.args.repair.now) in
    record {
      graph_len = ap length c.requires.n_bound.1 ∙ drawn_long c.args.n (edge c.args.n c.args.graph.now);
      by_index = listed_inside c.args.n c.args.repair.now c.requires.repair_value.1;
      repair_in_bounds = then_room c.args.page.now head changes (first_room c.args.page.now (head ++ changes) trees c.requires.repair_in_bounds) c.head.ensures;
    }

pub trees-requires : goal.trees-requires
trees-requires c =
    let head = vertices_line c.args.n ++ answer_line c.args.cost (length c.args.repair.now) c.args.steps in
    let changes = change_lines c.args.n (edge c.args.n c.args.graph.now) c.args.repair.now in
    let trees = tree_lines c.args.n (toggled c.args.n (edge c.args.n c.args.graph.now) c.args.repair.now) in
    let told = both c.args.page.now head changes (first_room c.args.page.now (head ++ changes) trees c.requires.repair_in_bounds) c.head.ensures c.changes.ensures in
    let same = same_edges c.args.n (edge c.args.n c.args.graph.now) c.args.repair.now c.requires.n_bound.2 c.mend.ensures in
    record {
      n_bound = (c.requires.n_bound.0, mended_long c.args.n (edge c.args.n c.args.graph.now) c.args.repair.now c.requires.n_bound.2 c.mend.ensures, mended_fine c.args.n (edge c.args.n c.args.graph.now) c.args.repair.now c.requires.n_bound.2 c.mend.ensures);
      clean = subst (Clean c.args.n) (sym same) c.requires.repair_value.2;
      graph_in_bounds = room_as c.changes.new.page (ap (tree_lines c.args.n) same)
          (then_room c.args.page.now (head ++ changes) trees c.requires.repair_in_bounds told);
    }

pub returns : goal.returns
returns c =
    let head = vertices_line c.args.n ++ answer_line c.args.cost (length c.args.repair.now) c.args.steps in
    let changes = change_lines c.args.n (edge c.args.n c.args.graph.now) c.args.repair.now in
    let trees = tree_lines c.args.n (toggled c.args.n (edge c.args.n c.args.graph.now) c.args.repair.now) in
    let told = both c.args.page.now head changes (first_room c.args.page.now (head ++ changes) trees c.requires.repair_in_bounds) c.head.ensures c.changes.ensures in
    let same = same_edges c.args.n (edge c.args.n c.args.graph.now) c.args.repair.now c.requires.n_bound.2 c.mend.ensures in
    both c.args.page.now (head ++ changes) trees c.requires.repair_in_bounds told
    (put_as c.changes.new.page (ap (tree_lines c.args.n) same) c.trees.ensures)
