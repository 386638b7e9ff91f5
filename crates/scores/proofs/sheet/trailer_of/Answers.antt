-- `trailer_of` meets its contract: the fields of the trailer. Assumes nothing.
use mathlib.Core.Path.{◌∙◌}
use Rattle.scores.proofs.Complement.{back}
use Rattle.scores.specs.Sheet.{notes_of, size_of, threshold_of}
use Rattle.scores.proofs.sheet.trailer_of.Goals as goal

pub returns : goal.returns
unfolding notes_of size_of threshold_of
returns c =
    let p = c.number4.ensures in
    let n = c.from.ensures ∙ c.number2.ensures in
    let t = back c.signed2.result c.signed2.type_inv ∙ c.signed2.ensures in
    (λ i. record { p = p i; n = n i; t = t i })
