-- `trees` meets its contract: the answer is a forest, and its lines are put. Assumes nothing.
use native.Mathlib.Omega.{arith}
use mathlib.Core.Path.{◌∙◌, ap}
use Rattle.graph.specs.Graph.{edge}
use Rattle.forest.specs.Order.{parent}
use Rattle.forest.specs.Forest.{roots}
use Rattle.lines.specs.Lines.{parent_lines, groups_line}
use Rattle.lines.proofs.Behind.{room_as, put_as, first_room, then_room, both}
use Rattle.lines.proofs.Trees.{is_forest, firsts_told, parents_told, groups_told}
use Rattle.lines.proofs.sheet.trees.Goals as goal

pub unreachable-requires : goal.unreachable-requires
unreachable-requires c =
    let (groups, e) = is_forest c.args.n c.args.graph.now _ c.requires.n_bound.0 c.requires.n_bound.1 c.requires.n_bound.2 (omega arith) c.requires.clean _ (rw c.in-Ok-Spoiled.field-0-is at c.in-Ok-Spoiled.ensures) in
    cc

pub unreachable-requires-in-Err : goal.unreachable-requires-in-Err
unreachable-requires-in-Err c =
    let (groups, e) = is_forest c.args.n c.args.graph.now _ c.requires.n_bound.0 c.requires.n_bound.1 c.requires.n_bound.2 (omega arith) c.requires.clean _ c.in-Err.ensures in
    cc

pub parents-requires : goal.parents-requires
parents-requires c =
    let p = rw c.in-Ok-Forest.field-0-is at c.in-Ok-Forest.ensures in
    let e = parents_told c.args.n c.args.graph.now _ c.requires.n_bound.0 c.requires.n_bound.1 c.requires.n_bound.2 p.meant in
    room_as c.args.page.now (firsts_told c.args.n c.forest.new.out (omega (arith, c.forest.auto.out)) ∙ e) (first_room c.args.page.now (parent_lines c.args.n (parent c.args.n (edge c.args.n c.args.graph.now))) (groups_line (roots c.args.n (parent c.args.n (edge c.args.n c.args.graph.now)))) c.requires.graph_in_bounds)

pub one-requires : goal.one-requires
one-requires c =
    let p = rw c.in-Ok-Forest.field-0-is at c.in-Ok-Forest.ensures in
    let first = put_as c.args.page.now (firsts_told c.args.n c.forest.new.out (omega (arith, c.forest.auto.out)) ∙ parents_told c.args.n c.args.graph.now _ c.requires.n_bound.0 c.requires.n_bound.1 c.requires.n_bound.2 p.meant) c.parents.ensures in
    let told = ap groups_line (groups_told c.args.n c.args.graph.now _ c.requires.n_bound.0 c.requires.n_bound.1 c.requires.n_bound.2 p.meant) in
    room_as c.parents.new.page told (then_room c.args.page.now (parent_lines c.args.n (parent c.args.n (edge c.args.n c.args.graph.now))) (groups_line (roots c.args.n (parent c.args.n (edge c.args.n c.args.graph.now)))) c.requires.graph_in_bounds first)

pub returns : goal.returns
returns c =
    let p = rw c.in-Ok-Forest.field-0-is at c.in-Ok-Forest.ensures in
    let first = put_as c.args.page.now (firsts_told c.args.n c.forest.new.out (omega (arith, c.forest.auto.out)) ∙ parents_told c.args.n c.args.graph.now _ c.requires.n_bound.0 c.requires.n_bound.1 c.requires.n_bound.2 p.meant) c.parents.ensures in
    let told = ap groups_line (groups_told c.args.n c.args.graph.now _ c.requires.n_bound.0 c.requires.n_bound.1 c.requires.n_bound.2 p.meant) in
    both c.args.page.now (parent_lines c.args.n (parent c.args.n (edge c.args.n c.args.graph.now))) (groups_line (roots c.args.n (parent c.args.n (edge c.args.n c.args.graph.now)))) c.requires.graph_in_bounds first (put_as c.parents.new.page told c.one.ensures)
