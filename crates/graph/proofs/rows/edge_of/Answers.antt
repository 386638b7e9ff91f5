-- `graph::rows::edge_of` meets its contract: a byte inside, and no edge to what is no vertex. Assumes nothing.
use Rattle.std.proofs.Common.{sym, ◌∙◌}
use borrow.Author.Tests.{le-ltb}
use Rattle.graph.proofs.RowLaws.{edge_in, edge_column}
use Rattle.graph.proofs.rows.edge_of.Goals as goal

pub returns-then-j-n : goal.returns-then-j-n
returns-then-j-n c =
    sym (edge_in _ _ c.requires.i_lt_n c.if-j-n.true)

pub returns-else-j-n : goal.returns-else-j-n
returns-else-j-n c =
    le-ltb c.args.j c.args.n c.if-j-n.false ∙ sym (edge_column _ _ _ c.if-j-n.false)
