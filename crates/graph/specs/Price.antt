-- Prices, and number 6 of "Numbers returned". Assumes nothing.
use Rattle.std.specs.Prelude.{ℕ, ◌+◌, ◌*◌, Bool, ◌&&◌, ◌||◌, List, [], ◌∷◌, get_or, leb, eqb, Ok, Err}
use Rattle.bits.specs.Choice.{pick}
use Rattle.graph.specs.declared.Refusal.TheVariants.{BadPrice}
use Rattle.graph.specs.Each.{each}
use Rattle.graph.specs.Refusal.{Finding, first_of}

-- "65,535 for a pair that is fixed and may not be changed"
abbrev pub fixed : ℕ
fixed = 65535

-- "diagonal 0, .. each 1 to 10,000, or 65,535"
unfoldable pub priced : ℕ → ℕ → ℕ → Bool
priced i j p = pick (eqb i j) (eqb p 0) ((leb 1 p && leb p 10000) || eqb p fixed)

-- 6: "price outside the rule, or differs from its mirror", here at row i, column j
unfoldable pub price_entry : ℕ → List ℕ → ℕ → ℕ → Finding
price_entry n ps i j =
    pick (priced i j (get_or ps (i * n + j) 0) && eqb (get_or ps (i * n + j) 0) (get_or ps (j * n + i) 0)) (Ok tt) (Err (BadPrice i j))

-- "the first at fault row by row"
unfoldable pub price_entries : ℕ → List ℕ → Finding
price_entries n ps = first_of (each n (λ i. each n (λ j. price_entry n ps i j ∷ [])))
