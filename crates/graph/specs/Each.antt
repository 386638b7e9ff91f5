-- Lists made for each number in order. Assumes nothing.
use Rattle.std.specs.Prelude.{ℕ, zero, suc, Bool, List, [], ◌∷◌, ◌++◌}
use Rattle.bits.specs.Choice.{pick}

-- f 0, then f 1, .. and last f (n - 1), one behind the other
unfoldable pub each : {A : Type 0} → ℕ → (ℕ → List A) → List A
each zero f = []
each (suc k) f = each k f ++ f k

-- x where the test passes, else nothing
unfoldable pub only : {A : Type 0} → Bool → A → List A
only t x = pick t (x ∷ []) []
