-- Words and numbers as bytes. Assumes nothing.
use Rattle.std.specs.Prelude.{ℕ, zero, suc, ◌+◌, ◌/◌, ◌%◌, List, [], ◌∷◌, ◌++◌, ltb}
use Prim.Native.Char.{code}
use Prim.Native.String.{String, [] as «end», ◌∷◌ as ◌then◌}
use Rattle.bits.specs.Choice.{pick}

-- the bytes of a word, whose characters are all below 128
abbrev pub bytes : String → List ℕ
bytes «end» = []
bytes (c then cs) = code c ∷ bytes cs

-- the digit d: 48 is the byte of 0
abbrev pub digit : ℕ → ℕ
digit d = 48 + d

-- x in decimal, the highest digit first; the fuel is at least the number of digits
unfoldable pub spelled : ℕ → ℕ → List ℕ
spelled zero x = []
spelled (suc f) x = pick (ltb x 10) (digit x ∷ []) (spelled f (x / 10) ++ (digit (x % 10) ∷ []))

-- x in decimal, without leading zeros
unfoldable pub decimal : ℕ → List ℕ
decimal x = spelled (suc x) x
