-- `Scores::new` meets its contract: the checks 1 and 2 in turn. Assumes nothing.
use borrow.Author.Tests.{lt-ltb, le-ltb, eq-eqb, ne_eqb}
use mathlib.Core.List.{[]}
use mathlib.Core.Path.{sym, ◌∙◌}
use Rattle.bits.proofs.Truth.{not_in, not_off}
use Rattle.graph.specs.Check.{too_many}
use Rattle.graph.specs.declared.Refusal.TheVariants.{TooManyVertices, WrongLength}
use Rattle.scores.proofs.Checking.{done, hit, pass}
use Rattle.scores.specs.Drawing.{wrong_count}
use Rattle.scores.proofs.scale.Scores.new.Goals as goal

pub returns-then-n-gt128-clause-refused : goal.returns-then-n-gt128-clause-refused
unfolding too_many
returns-then-n-gt128-clause-refused c =
    hit TooManyVertices _ (lt-ltb _ _ c.if-n-gt128.true)

pub returns-then-list-pairs_of-clause-refused : goal.returns-then-list-pairs_of-clause-refused
unfolding too_many wrong_count
returns-then-list-pairs_of-clause-refused c =
    hit WrongLength [] (not_in (ne_eqb _ _ (λ e. c.if-list-pairs_of.true (e ∙ sym c.pairs_of.ensures))))
    ∙ pass TooManyVertices _ (le-ltb _ _ c.if-n-gt128.false)

pub returns-clause-refused : goal.returns-clause-refused
unfolding too_many wrong_count
returns-clause-refused c =
    done ∙ pass WrongLength [] (not_off (eq-eqb _ _ (c.if-list-pairs_of.false ∙ c.pairs_of.ensures)))
    ∙ pass TooManyVertices _ (le-ltb _ _ c.if-n-gt128.false)
