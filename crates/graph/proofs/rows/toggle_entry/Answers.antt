-- `graph::rows::toggle_entry` meets its contract: one word is stored with one bit toggled. Assumes nothing.
use native.Mathlib.Omega.{arith}
use Rattle.std.proofs.Common.{rules}
use Rattle.graph.proofs.WordLaws.{one_way}
use Rattle.graph.proofs.rows.toggle_entry.Goals as goal

pub returns : goal.returns
returns c =
    one_way _ _ c.requires.x_bound c.requires.y_bound _ _
    (record { many = c.requires.words_len; fits = λ p. search rules })
    (omega (arith, c.flipped.type_inv)) c.flipped.ensures
