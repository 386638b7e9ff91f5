-- What `forest` promises, for every input: the refusal, the meaning of each answer, and what the lent list holds afterwards.
-- Assumes nothing.
use Rattle.std.specs.Prelude.{◌≡◌, ℕ, ◌*◌, List, [], ◌∷◌, ◌++◌, drop, Some, Result, Ok, Err}
use Rattle.graph.specs.declared.Refusal.{Refusal}
use Rattle.graph.specs.Each.{each}
use Rattle.graph.specs.Refusal.{Finding, first_of, refusal}
use Rattle.graph.specs.Check.{too_many, wrong_length, entries, too_short}
use Rattle.graph.specs.Graph.{edge}
use Rattle.graph.specs.Quad.{quads, first, Clean}
use Rattle.forest.specs.declared.Answer.{Answer}
use Rattle.forest.specs.declared.Answer.TheVariants.{Spoiled, Forest}
use Rattle.forest.specs.Order.{parent}
use Rattle.forest.specs.Forest.{parent_in, Fits, Acyclic, roots}

-- "Order: 1, 2, then graph (3, 4), .. 10"; "Room wanted: n entries for a forest"
unfoldable pub checks : ℕ → List ℕ → List ℕ → List Finding
checks n g out = too_many n ∷ wrong_length g (n * n) ∷ entries n g ∷ too_short out n ∷ []

-- a forest was returned: the graph is clean, the first n entries are the parents, the rest is as it was, they make trees
-- that fit the graph, and the groups are the roots
pub record Grown (n : ℕ) (g out : List ℕ) (groups : ℕ) (after : List ℕ) : Type 0 where
  pub clean : Clean n (edge n g)
  pub parents : after ≡ each n (λ v. parent n (edge n g) v ∷ []) ++ drop n out
  pub acyclic : Acyclic n (parent_in n after)
  pub fits : Fits n (edge n g) (parent_in n after)
  pub trees : groups ≡ roots n (parent_in n after)

-- "On every refusal the list is unchanged"; not clean: "the answer is still 0" (`refusal`), "the first quad in listing order
-- is returned and the lent forest is unchanged"
abbrev pub Meant : ℕ → List ℕ → List ℕ → Result Answer Refusal → List ℕ → Type 0
Meant n g out (Err r) after = after ≡ out
Meant n g out (Ok (Spoiled q)) after = (first (quads n (edge n g)) ≡ Some q) × (after ≡ out)
Meant n g out (Ok (Forest groups)) after = Grown n g out groups after

pub record Promise (n : ℕ) (g out : List ℕ) (r : Result Answer Refusal) (after : List ℕ) : Type 0 where
  pub refused : refusal r ≡ first_of (checks n g out)
  pub meant : Meant n g out r after
