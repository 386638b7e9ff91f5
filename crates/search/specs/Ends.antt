-- The answer that a tally gives, and what is written to the lent list. Assumes nothing.
use Rattle.std.specs.Prelude.{◌≡◌, List, ◌++◌, ℕ, ◌*◌, ◌≤◌, length, take, drop, ltb, Option, Some, None, Ok}
use Rattle.bits.specs.Choice.{pick}
use Rattle.graph.specs.Graph.{IsGraph, row_edge}
use Rattle.graph.specs.Price.{price_entries}
use Rattle.memory.specs.declared.Tally.{Tally}
use Rattle.memory.specs.Tally.{budget}
use Rattle.search.specs.Memory.{pairs}
use Rattle.search.specs.declared.Answer.{Answer}
use Rattle.search.specs.declared.Answer.TheVariants.{Stopped, Nothing, Repaired}

-- nothing where nothing is kept; else the repair that is
abbrev pub answer_whole : Option ℕ → ℕ → ℕ → Answer
answer_whole None limit steps = Nothing steps
answer_whole (Some pairs) limit steps = Repaired limit pairs steps

-- stopped where the steps are above the limit
abbrev pub answer_of : ℕ → Tally → Answer
answer_of most t = pick (ltb most t.steps) (Stopped most) (answer_whole t.kept t.limit t.steps)

abbrev pub written_whole : Option ℕ → List ℕ → List ℕ → List ℕ
written_whole None kept list = list
written_whole (Some pairs) kept list = take pairs kept ++ drop pairs list

abbrev pub written_of : ℕ → Tally → List ℕ → List ℕ → List ℕ
written_of most t kept list = pick (ltb most t.steps) list (written_whole t.kept kept list)

pub record Told (most : ℕ) (t : Tally) (kept list : List ℕ) (r : Answer) (after : List ℕ) : Type 0 where
  pub answer : r ≡ answer_of most t
  pub written : after ≡ written_of most t kept list

-- what an engine is given: a graph as rows, prices that passed their check, a budget within its bound, and room in the list
pub record Engaged (n : ℕ) (rows : List (List ℕ)) (ps : List ℕ) (k : ℕ) (list : List ℕ) : Type 0 where
  pub few : n ≤ 128
  pub graph : IsGraph n (row_edge rows)
  pub long : length ps ≡ n * n
  pub priced : price_entries n ps ≡ Ok tt
  pub within : k ≤ budget
  pub room : pairs n ≤ length list
