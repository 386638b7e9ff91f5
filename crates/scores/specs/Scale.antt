-- The scale, the score rule and the order of the pairs ("Graphs, prices, scores"). Assumes nothing.
use Rattle.std.specs.Prelude.{ℕ, zero, suc, ◌+◌, ◌*◌, ◌-◌, ◌/◌, Bool, not, ◌&&◌, ltb, eqb, ℤ, pos, negsuc, nat_abs, ◌-ℤ◌}
use Rattle.std.specs.Prelude.{List, [], ◌∷◌, get_or, Ok, Err}
use Rattle.std.specs.Int.Signed.{lt_z, le_z}
use Rattle.bits.specs.Choice.{pick}
use Rattle.graph.specs.declared.Refusal.TheVariants.{OffScale}
use Rattle.graph.specs.Each.{each, only}
use Rattle.graph.specs.Refusal.{Finding, row, first_of}

-- "Scores and threshold t lie in -5,000 to 5,000."
abbrev pub on_scale : ℤ → Bool
on_scale s = le_z (negsuc 4999) s && le_z s (pos 5000)

-- "A pair is an edge when s > t."
abbrev pub edge_of : ℤ → ℤ → Bool
edge_of s t = lt_z t s

-- "Its price is the distance between s and t, and 1 where they are equal."
unfoldable pub distance : ℤ → ℤ → ℕ
distance s t = nat_abs (s -ℤ t)

unfoldable pub price_of : ℤ → ℤ → ℕ
price_of s t = pick (eqb (distance s t) 0) 1 (distance s t)

-- "exactly n(n-1)/2 of them"
abbrev pub half : ℕ → ℕ
half n = n * (n - 1) / 2

-- "for the pairs in the order (0,1), (0,2) .. (1,2) ..": how many stand before the row i, row k being (k, k + 1) .. (k, n - 1)
unfoldable pub earlier : ℕ → ℕ → ℕ
earlier n zero = 0
earlier n (suc i) = earlier n i + (n - suc i)

-- the place of the pair (i, j), i < j, in that order
unfoldable pub place : ℕ → ℕ → ℕ → ℕ
place n i j = earlier n i + (j - suc i)

-- the place of the pair {i, j}, and its score
unfoldable pub spot : ℕ → ℕ → ℕ → ℕ
spot n i j = pick (ltb i j) (place n i j) (place n j i)

unfoldable pub score_of : ℕ → List ℤ → ℕ → ℕ → ℤ
score_of n scores i j = get_or scores (spot n i j) (pos 0)

-- 5: "The threshold is tried first, place (0, 0)"
unfoldable pub threshold_off : ℤ → Finding
threshold_off t = row (OffScale 0 0) (not (on_scale t))

-- 5: "threshold or score off the scale"; "the first at fault row by row", with its pair's row and column
unfoldable pub score_off : ℕ → List ℤ → ℕ → ℕ → Finding
score_off n scores i j = pick (on_scale (score_of n scores i j)) (Ok tt) (Err (OffScale i j))

unfoldable pub scores_off : ℕ → List ℤ → Finding
scores_off n scores = first_of (each n (λ i. each n (λ j. only (ltb i j) (score_off n scores i j))))

-- the graph of the scores at row i, column j: "0 or 1, diagonal 0, symmetric"
unfoldable pub edge_byte : ℕ → ℤ → List ℤ → ℕ → ℕ → ℕ
edge_byte n t scores i j = pick (eqb i j) 0 (pick (edge_of (score_of n scores i j) t) 1 0)

-- the prices of the scores at row i, column j: "diagonal 0, symmetric"
unfoldable pub price_entry : ℕ → ℤ → List ℤ → ℕ → ℕ → ℕ
price_entry n t scores i j = pick (eqb i j) 0 (price_of (score_of n scores i j) t)

-- "n x n bytes, row by row", "n x n 16-bit numbers"
abbrev pub square : ℕ → (ℕ → ℕ → ℕ) → List ℕ
square n f = each n (λ i. each n (λ j. f i j ∷ []))
