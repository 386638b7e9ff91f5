use Rattle.std.proofs.Common.{rules}
use Rattle.std.specs.Prelude.{Err}
use mathlib.Core.Path.{◌≡◌, ◌∙◌, sym}
use Rattle.graph.proofs.Reading.{entries_graph}
use Rattle.forest.proofs.Answers.{refused_size, refused_length, refused_entry, refused_room, answered}
use Rattle.forest.proofs.forest.Goals as goal

pub returns-then-n-gt128 : goal.returns-then-n-gt128
returns-then-n-gt128 c =
    refused_size _ _ _ c.if-n-gt128.true

pub returns-then-g-n : goal.returns-then-g-n
returns-then-g-n c =
    refused_length _ _ _ c.if-n-gt128.false c.if-g-n.true

pub returns-in_err-entries_of : goal.returns-in_err-entries_of
returns-in_err-entries_of c =
    let back : c.from_residual.result ≡ Err c.in_err-entries_of.field-0.0 = search rules in
    rw back
    (refused_entry _ _ _ c.if-n-gt128.false c.if-g-n.false
    (sym c.entries_of.ensures ∙ c.in_err-entries_of.was))

pub returns-then-out-n : goal.returns-then-out-n
returns-then-out-n c =
    refused_room _ _ _ c.if-n-gt128.false c.if-g-n.false
    (sym c.entries_of.ensures ∙ c.in_ok-entries_of.was) c.if-out-n.true

pub judged-requires : goal.judged-requires
judged-requires c =
    (search rules, search rules, search rules, entries_graph _ _ (sym c.entries_of.ensures ∙ c.in_ok-entries_of.was))

pub returns : goal.returns
returns c =
    answered _ _ _ c.if-n-gt128.false c.if-g-n.false
    (sym c.entries_of.ensures ∙ c.in_ok-entries_of.was) c.if-out-n.false c.judged.ensures
