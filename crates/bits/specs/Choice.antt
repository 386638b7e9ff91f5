-- A choice by a test, and the count of what passes a test. Assumes nothing.
use Rattle.std.specs.Prelude.{ℕ, zero, suc, ◌+◌, Bool, true, false}

-- x where the test passes, else y
abbrev pub pick {ℓ} : {A : Type ℓ} → Bool → A → A → A
pick true x y = x
pick false x y = y

-- how many of 0 .. k - 1 pass the test
unfoldable pub count : (ℕ → Bool) → ℕ → ℕ
count f zero = zero
count f (suc k) = pick (f k) 1 0 + count f k
