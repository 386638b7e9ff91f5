-- `graph::rows::adjacent` meets its contract: the bit that is tested is the entry's. Assumes nothing.
use mathlib.Core.Path.{sym, ◌∙◌}
use Rattle.graph.proofs.Within.{word_bits}
use Rattle.graph.proofs.rows.adjacent.Goals as goal

pub returns : goal.returns
returns c =
    c.has.ensures ∙ sym (word_bits _ c.requires.x_bound c.requires.y_bound)
