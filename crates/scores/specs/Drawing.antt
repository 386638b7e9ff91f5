-- What `to_graph` promises, for every input: the refusal, and what the two lent buffers hold afterwards. Assumes nothing.
use Rattle.std.specs.Prelude.{◌≡◌, ℕ, ◌*◌, not, List, [], ◌∷◌, ◌++◌, length, drop, eqb, ℤ, Ok, Err}
use Rattle.graph.specs.declared.Refusal.TheVariants.{WrongLength}
use Rattle.graph.specs.Refusal.{Finding, row, first_of}
use Rattle.graph.specs.Check.{too_many, too_short}
use Rattle.scores.specs.Scale.{half, threshold_off, scores_off, edge_byte, price_entry, square}

-- 2: "a .. score list has the wrong length": "exactly n(n-1)/2 of them"
unfoldable pub wrong_count : List ℤ → ℕ → Finding
wrong_count scores n = row WrongLength (not (eqb (length scores) (half n)))

-- "Scores to graph: 1, 2, 5, 10"; "Room wanted: .. n x n for each matrix"
unfoldable pub checks : ℕ → ℤ → List ℤ → List ℕ → List ℕ → List Finding
checks n t scores graph prices =
    too_many n
    ∷ wrong_count scores n
    ∷ threshold_off t
    ∷ scores_off n scores
    ∷ too_short graph (n * n)
    ∷ too_short prices (n * n)
    ∷ []

-- "every lent buffer is then unchanged" of a refusal; else the first n x n entries, and "Entries beyond what is written stay"
abbrev pub Meant : ℕ → ℤ → List ℤ → List ℕ → List ℕ → Finding → List ℕ → List ℕ → Type 0
Meant n t scores graph prices (Err r) graph' prices' = (graph' ≡ graph) × (prices' ≡ prices)
Meant n t scores graph prices (Ok done) graph' prices' =
    (graph' ≡ square n (edge_byte n t scores) ++ drop (n * n) graph)
    × (prices' ≡ square n (price_entry n t scores) ++ drop (n * n) prices)

pub record Promise
    (n : ℕ)
    (t : ℤ)
    (scores : List ℤ)
    (graph prices : List ℕ)
    (r : Finding)
    (graph' prices' : List ℕ) : Type 0 where
  pub refused : r ≡ first_of (checks n t scores graph prices)
  pub meant : Meant n t scores graph prices r graph' prices'
