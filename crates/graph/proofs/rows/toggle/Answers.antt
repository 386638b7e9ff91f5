-- `graph::rows::toggle` meets its contract: the entry at row x, column y, and then its mirror. Assumes nothing.
use Rattle.graph.proofs.WordLaws.{both_ways}
use Rattle.graph.proofs.rows.toggle.Goals as goal

pub returns : goal.returns
returns c =
    let apart = c.requires.apart in
    both_ways apart c.toggle_entry.ensures c.toggle_entry-2.ensures
