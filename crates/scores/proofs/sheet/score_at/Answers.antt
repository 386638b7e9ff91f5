-- `score_at` meets its contract. Assumes nothing.
use mathlib.Core.Path.{◌∙◌}
use Rattle.scores.proofs.Complement.{back}
use Rattle.scores.specs.Sheet.{score_at}
use Rattle.scores.proofs.sheet.score_at.Goals as goal

pub returns : goal.returns
unfolding score_at
returns c =
    back c.signed2.result c.signed2.type_inv ∙ c.signed2.ensures
