-- What the inner functions promise their callers. No entry point's promise cites a definition of this file. Assumes nothing.
use Rattle.std.specs.Prelude.{◌≡◌, Bool, true, List, ◌++◌, ℕ, ◌*◌, ◌≤◌, length, get_or, set, ℤ, eqb, Ok}
use Rattle.bits.specs.Choice.{pick}
use Rattle.graph.specs.Check.{entries}
use Rattle.graph.specs.Price.{price_entries}
use Rattle.repair.specs.Pair.{is_pair}
use Rattle.repair.specs.Repair.{toggled}
use Rattle.scores.specs.Scale.{half, on_scale, scores_off, square}
use Rattle.lines.specs.Lines.{vertices_line, answer_line, change_lines, tree_lines}

-- the graph with the edges e as "n x n bytes, row by row: 0 or 1"
unfoldable pub drawn_of : ℕ → (ℕ → ℕ → Bool) → List ℕ
drawn_of n e = square n (λ i j. pick (e i j) 1 0)

-- the entry at p turned over: 0 where it is 1, else 1
unfoldable pub turned : List ℕ → ℕ → List ℕ
turned g p = set g p (pick (eqb (get_or g p 0) 1) 0 1)

-- the lines of a repair up to those of its pairs, and all of them
abbrev pub first_lines : ℕ → (ℕ → ℕ → Bool) → List ℕ → ℕ → ℕ → List ℕ
first_lines n e repair cost steps = (vertices_line n ++ answer_line cost (length repair) steps) ++ change_lines n e repair

abbrev pub repair_lines : ℕ → (ℕ → ℕ → Bool) → List ℕ → ℕ → ℕ → List ℕ
repair_lines n e repair cost steps = first_lines n e repair cost steps ++ tree_lines n (toggled n e repair)

-- bytes and prices that pass their checks, with no fixed pair
pub record Checked (n : ℕ) (graph prices : List ℕ) : Type 0 where
  pub few : n ≤ 128
  pub bytes : length graph ≡ n * n
  pub costs : length prices ≡ n * n
  pub fine : entries n graph ≡ Ok tt
  pub priced : price_entries n prices ≡ Ok tt
  pub loose : (x : ℕ) → is_pair n x ≡ true → (1 ≤ get_or prices x 0) × (get_or prices x 0 ≤ 10000)

-- scores that pass their checks, and room for the graph and the prices
pub record Ready (n : ℕ) (t : ℤ) (scores : List ℤ) (graph prices : List ℕ) : Type 0 where
  pub few : n ≤ 128
  pub counted : length scores ≡ half n
  pub scale : on_scale t ≡ true
  pub scored : Ok tt ≡ scores_off n scores
  pub bytes : length graph ≡ n * n
  pub costs : length prices ≡ n * n
