-- `bound::packing_of` meets its contract: the words are the graph, and the table gives the bound of the prices. Assumes nothing.
use native.Mathlib.Omega.{arith}
use mathlib.Core.Path.{◌∙◌}
use Rattle.bound.proofs.Answers.{words_graph, whole_bound}
use Rattle.bound.proofs.PriceLaws.{filled_none}
use Rattle.bound.proofs.packing_of.Goals as goal

pub fill-requires-clause-empty : goal.fill-requires-clause-empty
fill-requires-clause-empty c =
    filled_none _ _

pub within-requires : goal.within-requires
within-requires c =
    let flat = c.flat_of-words.ensures in
    record {
      g_len = (flat.shape.many, c.fill.ensures.many, c.requires.n_bound.0, omega arith);
      graph = words_graph _ _ _ (flat.edges ∙ c.rows_of-rows.ensures.edges) c.requires.g_value.0;
    }

pub returns : goal.returns
returns c =
    whole_bound _ c.requires.n_bound.0 _ _ _ _ (c.flat_of-words.ensures.edges ∙ c.rows_of-rows.ensures.edges) c.requires.g_value.0
    c.fill.ensures c.requires.g_value.1 c.within.ensures
