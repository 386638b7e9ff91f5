use mathlib.Core.Path.{◌∙◌}
use Rattle.graph.proofs.WordLaws.{copied_none}
use Rattle.forest.proofs.Answers.{cleared}
use Rattle.forest.proofs.judged.Goals as goal

pub lay_flat-requires : goal.lay_flat-requires
lay_flat-requires c = (copied_none c.rows_of-rows.result).shape

-- the words read as the bytes do
pub returns-in-None : goal.returns-in-None
returns-in-None c =
    cleared _ _ _ (c.lay_flat.ensures.edges ∙ c.rows_of-rows.ensures.edges) c.requires.3 c.requires.0 c.in-None.ensures
    c.planted.ensures.0 c.planted.ensures.1
