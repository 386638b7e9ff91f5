-- `graph::rows::row_of` meets its contract: two words of 64 columns make a row. Assumes nothing.
use native.Mathlib.Omega.{arith}
use Rattle.graph.proofs.RowLaws.{row_made}
use Rattle.graph.proofs.rows.row_of.Goals as goal

pub returns : goal.returns
returns c =
    row_made _ (omega (arith, c.word_of.type_inv)) (omega (arith, c.word_of-2.type_inv))
    c.word_of.ensures c.word_of-2.ensures
