-- `price` meets its contract: the distance of two numbers, and 1 where that is 0. Assumes nothing.
use Prim.Native.Nat.{ℕ}
use mathlib.Core.Path.{◌∙◌, ap, ap₂}
use mir.Syntax.{w16}
use mir.ValLaws.{to_z-of_z}
use Rattle.std.proofs.Common.{max}
use Rattle.scores.proofs.Complement.{price_is}
use Rattle.scores.specs.Scale.{distance}
use Rattle.scores.proofs.scale.price.Goals as goal

pub returns : goal.returns
unfolding distance
returns c =
    let d = c.abs_diff.ensures ∙ ap₂ distance (to_z-of_z w16 c.args.s c.ranges.s) (to_z-of_z w16 c.args.t c.ranges.t) in
    c.max.ensures ∙ ap (λ (x : ℕ). max x 1) d ∙ price_is c.args.s c.args.t
