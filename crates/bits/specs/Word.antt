-- The contracts of the word operations that are more than one equation: the lowest set bit, and the word without it.
-- Assumes nothing.
use Rattle.std.specs.Prelude.{◌≡◌, true, false, not, ◌&&◌, ℕ, ◌<◌, eqb}
use Rattle.bits.specs.Bit.{bit}

-- i is the lowest set bit of the word w
pub record Lowest (w i : ℕ) : Type 0 where
  pub within : i < 64
  pub set : bit w i ≡ true
  pub first : (j : ℕ) → j < i → bit w j ≡ false

-- r is the word w with its lowest set bit cleared, and so a smaller number
pub record Cleared (w r : ℕ) : Type 0 where
  pub bits : (i : ℕ) → Lowest w i → (j : ℕ) → bit r j ≡ (bit w j && not (eqb j i))
  pub smaller : r < w
