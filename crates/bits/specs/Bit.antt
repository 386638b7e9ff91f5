-- The bits of a word, lowest first: what every operation of this crate is said by. Assumes nothing.
use Rattle.std.specs.Prelude.{ℕ, ◌/◌, ◌%◌, ◌^◌, Bool, eqb}

unfoldable pub odd : ℕ → Bool
odd n = eqb (n % 2) 1

-- is bit i of the word w set: "a vertex's neighbours are two 64-bit words"
unfoldable pub bit : ℕ → ℕ → Bool
unfolding odd
bit w i = odd (w / 2 ^ i)
