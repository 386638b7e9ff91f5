-- `Scores::at` meets its contract: the score at the place of the pair. Assumes nothing.
use Rattle.std.proofs.Common.{rules}
use Prim.Native.Nat.{ℕ}
use lib.IntN.{ℤ, pos}
use lib.ListN.{get_or}
use mathlib.Core.List.{List}
use mathlib.Core.Path.{◌∙◌, ap}
use mir.Syntax.{w16}
use mir.ValLaws.{to_z-of_z}
use Rattle.scores.specs.Scale.{score_of}
use Rattle.scores.proofs.scale.Scores.at.Goals as goal

pub returns : goal.returns
unfolding score_of
returns c =
    let xs : List ℤ = c.args.self.now.list.now in
    to_z-of_z w16 (get_or xs c.spot_of.result (pos 0)) (search rules) ∙ ap (λ (k : ℕ). get_or xs k (pos 0)) c.spot_of.ensures.0
