-- The sheet: its bytes, and what is read from bytes ("The sheet"). Assumes nothing.
use Rattle.std.specs.Prelude.{ℕ, zero, suc, ◌+◌, ◌*◌, ◌-◌, ◌/◌, ◌%◌, ◌<◌, List, [], ◌∷◌, ◌++◌, length, get_or, take, drop, ℤ}
use Rattle.std.specs.Int.{w16}
use Rattle.std.proofs.Common.{of_z, to_z}
use Rattle.graph.specs.Each.{each}
use Rattle.scores.specs.Scale.{half}

-- "low byte first": k bytes of a number, and the number of some bytes
unfoldable pub low_first : ℕ → ℕ → List ℕ
low_first zero v = []
low_first (suc k) v = v % 256 ∷ low_first k (v / 256)

unfoldable pub number : List ℕ → ℕ
number [] = 0
number (b ∷ bs) = b + 256 * number bs

-- "2 bytes .., low byte first, two's complement": of_z gives the bits of a signed number, to_z reads them
unfoldable pub signed_bytes : ℤ → List ℕ
signed_bytes z = low_first 2 (of_z w16 z)

-- "scores: 2 bytes each"
unfoldable pub score_bytes : List ℤ → List ℕ
score_bytes [] = []
score_bytes (s ∷ ss) = signed_bytes s ++ score_bytes ss

-- "trailer, 8 bytes: p in 4 bytes, n in 2, t in 2 (two's complement), low byte first"
unfoldable pub trailer : ℕ → ℕ → ℤ → List ℕ
trailer p n t = low_first 4 p ++ low_first 2 n ++ signed_bytes t

-- "A sheet is notes, then scores, then a trailer that points back"
unfoldable pub sheet_bytes : List ℕ → List ℤ → ℕ → ℤ → List ℕ
sheet_bytes notes scores n t = notes ++ score_bytes scores ++ trailer (length notes) n t

-- "The length is exactly p + n(n-1) + 8"
abbrev pub sheet_length : ℕ → ℕ → ℕ
sheet_length p n = p + n * (n - 1) + 8

-- every lent `&[u8]` is a list of bytes
abbrev pub AreBytes : List ℕ → Type 0
AreBytes xs = (k : ℕ) → get_or xs k 0 < 256

-- the number in the k bytes of a sheet that begin at a place
unfoldable pub field : List ℕ → ℕ → ℕ → ℕ
field sheet at k = number (take k (drop at sheet))

-- p, n and t of a sheet: its last 8 bytes
unfoldable pub notes_of : List ℕ → ℕ
notes_of sheet = field sheet (length sheet - 8) 4

unfoldable pub size_of : List ℕ → ℕ
size_of sheet = field sheet (length sheet - 4) 2

unfoldable pub threshold_of : List ℕ → ℤ
threshold_of sheet = to_z w16 (field sheet (length sheet - 2) 2)

-- the k-th score behind p bytes of notes, and all n(n-1)/2 of them
unfoldable pub score_at : List ℕ → ℕ → ℕ → ℤ
score_at sheet p k = to_z w16 (field sheet (p + 2 * k) 2)

unfoldable pub scores_of : List ℕ → List ℤ
scores_of sheet = each (half (size_of sheet)) (λ k. score_at sheet (notes_of sheet) k ∷ [])
