-- What `bound` promises, for every input: the refusal, and the packing of the graph by itself. Assumes nothing.
use Rattle.std.specs.Prelude.{◌≡◌, ℕ, ◌*◌, List, [], ◌∷◌, Result, Ok, Err}
use Rattle.graph.specs.declared.Refusal.{Refusal}
use Rattle.graph.specs.Refusal.{Finding, first_of, refusal}
use Rattle.graph.specs.Check.{too_many, wrong_length, entries}
use Rattle.graph.specs.Price.{price_entries}
use Rattle.graph.specs.Graph.{edge}
use Rattle.graph.specs.Quad.{quads}
use Rattle.repair.specs.Pair.{changeable}
use Rattle.repair.specs.Repair.{toll_of}
use Rattle.repair.specs.Packing.{packing}

-- "Order: 1, 2, then graph (3, 4), prices (6)": the graph's length, then the prices'
unfoldable pub checks : ℕ → List ℕ → List ℕ → List Finding
checks n g prices =
    too_many n ∷ wrong_length g (n * n) ∷ wrong_length prices (n * n) ∷ entries n g ∷ price_entries n prices ∷ []

-- "Asked for a graph by itself, nothing is marked": free is what is not fixed
abbrev pub packing_of : ℕ → List ℕ → List ℕ → ℕ
packing_of n g prices = packing n (changeable n (toll_of prices)) (toll_of prices) (quads n (edge n g))

-- "A refusal carries no .. price"
abbrev pub Meant : ℕ → List ℕ → List ℕ → Result ℕ Refusal → Type 0
Meant n g prices (Err r) = Unit {0}
Meant n g prices (Ok bound) = bound ≡ packing_of n g prices

pub record Promise (n : ℕ) (g prices : List ℕ) (r : Result ℕ Refusal) : Type 0 where
  pub refused : refusal r ≡ first_of (checks n g prices)
  pub meant : Meant n g prices r
