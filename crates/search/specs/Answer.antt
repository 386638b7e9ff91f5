-- What `plain` and `pruned` promise, for every input: the refusal, the meaning of each answer, the steps, and what the lent
-- list holds afterwards. Assumes nothing.
use Rattle.std.specs.Prelude.{◌≡◌, Bool, List, [], ◌∷◌, ◌++◌, ℕ, ◌*◌, ◌≤◌, ◌<◌, length, drop, ltb, Result, Ok, Err}
use Rattle.std.proofs.Math.Option.{none, some}
use Rattle.graph.specs.declared.Refusal.{Refusal}
use Rattle.graph.specs.declared.Refusal.TheVariants.{BudgetTooLarge}
use Rattle.graph.specs.Refusal.{Finding, number, row, first_of, refusal}
use Rattle.graph.specs.Check.{too_many, wrong_length, too_short, entries}
use Rattle.graph.specs.Price.{price_entries}
use Rattle.graph.specs.Graph.{edge}
use Rattle.walk.specs.Best.{IsBest}
use Rattle.repair.specs.Better.{price}
use Rattle.repair.specs.Repair.{toll_of, Repair}
use Rattle.repair.specs.Tree.{order, walked}
use Rattle.search.specs.declared.Answer.{Answer}
use Rattle.search.specs.declared.Answer.TheVariants.{Stopped, Nothing, Repaired}
use Rattle.memory.specs.Tally.{budget}
use Rattle.search.specs.Memory.{pairs}

-- 7: "budget too large"
unfoldable pub too_large : ℕ → Finding
too_large k = row BudgetTooLarge (ltb budget k)

-- "Order: 1, 2, then graph (3, 4), prices (6), 7, 10"; "Room wanted: .. n(n-1)/2 for a repair"
unfoldable pub checks : ℕ → List ℕ → List ℕ → ℕ → List ℕ → List Finding
checks n g ps k list =
    too_many n ∷ wrong_length g (n * n) ∷ wrong_length ps (n * n) ∷ entries n g ∷ price_entries n ps ∷ too_large k ∷
    too_short list (pairs n) ∷ []

-- this paper's number and steps of each answer: "8 and 9 carry steps; every other refusal has steps 0"; "then 9, and 8 last",
-- so no check found anything where one of them is given
abbrev pub number_of : Result Answer Refusal → ℕ
number_of (Err r) = number r
number_of (Ok (Stopped steps)) = 9
number_of (Ok (Nothing steps)) = 8
number_of (Ok (Repaired cost count steps)) = 0

abbrev pub steps_of : Result Answer Refusal → ℕ
steps_of (Err r) = 0
steps_of (Ok (Stopped steps)) = steps
steps_of (Ok (Nothing steps)) = steps
steps_of (Ok (Repaired cost count steps)) = steps

-- the graph has n vertices and the edges e; `toll` are the prices by number
module _ (prune : Bool) (n : ℕ) (e : ℕ → ℕ → Bool) (toll : ℕ → ℕ) (k most : ℕ) (list : List ℕ) where
  -- the nodes of the engine's tree: "Entering a node is one step."
  abbrev pub nodes : ℕ
  nodes = (walked n e toll prune k).steps

  -- 9: "the tree has more than L nodes; steps = L"
  pub record Over (steps : ℕ) (after : List ℕ) : Type 0 where
    pub more : most < nodes
    pub limit : steps ≡ most
    pub unchanged : after ≡ list

  -- 8: "no repair within k; with steps"
  pub record None (steps : ℕ) (after : List ℕ) : Type 0 where
    pub within : nodes ≤ most
    pub counted : steps ≡ nodes
    pub best : IsBest (order toll) k (Repair n e toll) none
    pub unchanged : after ≡ list

  -- "The one returned has the lowest price; among equals, ..": its price, how many pairs it has, and the list, whose "Entries
  -- beyond what is written stay"
  pub record Best (cost count steps : ℕ) (after : List ℕ) : Type 0 where
    pub within : nodes ≤ most
    pub counted : steps ≡ nodes
    pub repair : List ℕ
    pub best : IsBest (order toll) k (Repair n e toll) (some repair)
    pub paid : cost ≡ price toll repair
    pub many : count ≡ length repair
    pub written : after ≡ repair ++ drop (length repair) list

  -- what an engine answers that searches
  abbrev pub Answered : Answer → List ℕ → Type 0
  Answered (Stopped steps) after = Over steps after
  Answered (Nothing steps) after = None steps after
  Answered (Repaired cost count steps) after = Best cost count steps after

  -- "A refusal carries no repair, forest or price, and every lent buffer is then unchanged."
  abbrev pub Meant : Result Answer Refusal → List ℕ → Type 0
  Meant (Err r) after = after ≡ list
  Meant (Ok answer) after = Answered answer after

-- what an engine promises: `g` are the graph's bytes, `ps` the prices, `k` the budget, `most` the step limit L
pub record Promise
    (prune : Bool) (n : ℕ) (g ps : List ℕ) (k most : ℕ) (list : List ℕ) (r : Result Answer Refusal) (after : List ℕ) : Type 0
  where
    pub refused : refusal r ≡ first_of (checks n g ps k list)
    pub meant : Meant prune n (edge n g) (toll_of ps) k most list r after
