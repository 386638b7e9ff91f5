-- `number2` meets its contract: two bytes, low byte first. Assumes nothing.
use mathlib.Core.Path.{◌∙◌, ap}
use Rattle.scores.proofs.Fields.{number_two}
use Rattle.scores.specs.Sheet.{number, field}
use Rattle.scores.proofs.sheet.number2.Goals as goal

pub returns : goal.returns
unfolding field
returns c =
    c.from_le_bytes.ensures ∙ number_two c.bytes.result (search c) ∙ ap number c.bytes.ensures
