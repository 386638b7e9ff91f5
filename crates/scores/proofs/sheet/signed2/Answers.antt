-- `signed2` meets its contract: the bits of a number. Assumes nothing.
use mathlib.Core.Path.{◌∙◌, ap}
use mir.Syntax.{w16}
use mir.Val.{to_z}
use Rattle.scores.proofs.Complement.{back}
use Rattle.scores.proofs.Fields.{number_two}
use Rattle.scores.specs.Sheet.{number, field}
use Rattle.scores.proofs.sheet.signed2.Goals as goal

pub returns : goal.returns
unfolding field
returns c =
    let bits = number_two c.bytes.result (search c) ∙ ap number c.bytes.ensures in
    back c.from_le_bytes.result c.from_le_bytes.type_inv ∙ c.from_le_bytes.ensures ∙ ap (to_z w16) bits
