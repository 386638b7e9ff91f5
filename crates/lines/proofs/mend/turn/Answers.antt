-- `turn` meets its contract: 0 where the entry is 1, else 1. Assumes nothing.
use Prim.Native.Nat.{ℕ}
use mathlib.Core.Path.{◌≡◌, refl, ◌∙◌, ap}
use mathlib.Core.Bool.{Bool, true, false, not}
use lib.ListN.{set}
use mir.Val.{bool_byte}
use Rattle.bits.specs.Choice.{pick}
use Rattle.lines.specs.Inner.{turned}
use Rattle.lines.proofs.mend.turn.Goals as goal

other : (b : Bool) → bool_byte (not b) ≡ pick b 0 1
other true = refl
other false = refl

pub returns : goal.returns
unfolding turned
returns c = ap (λ (v : ℕ). set c.args.graph.now c.args.p v) (c.from.ensures ∙ other _)
