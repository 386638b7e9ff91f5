-- What `report` promises, for every input: which lines, and what the lent text holds afterwards. Assumes nothing.
use Rattle.std.specs.Prelude.{◌≡◌, ◌⊎◌, Bool, true, List, [], ◌∷◌, ◌++◌, ℕ, ◌≤◌, ◌<◌, length, drop, ltb, Result, Ok, Err}
use Rattle.std.proofs.Math.Option.{some}
use Rattle.graph.specs.declared.Refusal.{Refusal}
use Rattle.graph.specs.declared.Refusal.TheVariants.{BadSheet}
use Rattle.graph.specs.Refusal.{Finding, number, row_at, column_at, row, first_of, refusal}
use Rattle.graph.specs.Check.{too_short}
use Rattle.graph.specs.Graph.{edge}
use Rattle.walk.specs.Best.{IsBest}
use Rattle.repair.specs.Better.{price}
use Rattle.repair.specs.Repair.{toll_of, toggled, Repair}
use Rattle.repair.specs.Tree.{order, walked}
use Rattle.scores.specs.Scale.{edge_byte, price_entry, square}
use Rattle.scores.specs.Sheet.{size_of, threshold_of, scores_of}
use Rattle.scores.specs.Reader.{sheet_fault}
use Rattle.lines.specs.Lines.{
  refusal_line,
  stopped_line,
  vertices_line,
  answer_line,
  change_lines,
  tree_lines,
}

-- "k = 81,280,000, L = 1,000,000"
abbrev pub budget : ℕ
budget = 81280000

abbrev pub limit : ℕ
limit = 1000000

-- of the graph of n vertices with the edges e, at the prices by number `toll`
module _ (n : ℕ) (e : ℕ → ℕ → Bool) (toll : ℕ → ℕ) where
  -- "pruned engine": the nodes of its tree
  abbrev pub nodes : ℕ
  nodes = (walked n e toll true budget).steps

  -- all lines for a repair: "one `parent` line per vertex of the repaired graph"
  unfoldable pub page_of : List ℕ → List ℕ
  page_of repair =
      vertices_line n ++
      answer_line (price toll repair) (length repair) nodes ++
      change_lines n e repair ++
      tree_lines n (toggled n e repair)

  -- "The one returned has the lowest price; among equals, .."
  pub record Mended (text : List ℕ) : Type 0 where
    pub within : nodes ≤ limit
    pub repair : List ℕ
    pub best : IsBest (order toll) budget (Repair n e toll) (some repair)
    pub lines : text ≡ page_of repair

  -- 9: "the tree has more than L nodes; steps = L"
  pub record Stopped (text : List ℕ) : Type 0 where
    pub over : limit < nodes
    pub line : text ≡ stopped_line limit

  -- "Eight cannot occur here."
  abbrev pub Searched : List ℕ → Type 0
  Searched text = Stopped text ⊎ Mended text

-- "Input above 49,032 bytes gets 11", before anything in it is looked at; else what the reader refuses, which has room
unfoldable pub fault : List ℕ → Finding
fault sheet = first_of (row BadSheet (ltb 49032 (length sheet)) ∷ sheet_fault sheet ∷ [])

-- the graph and the prices of a sheet, row by row
unfoldable pub graph_of : List ℕ → List ℕ
graph_of sheet = square (size_of sheet) (edge_byte (size_of sheet) (threshold_of sheet) (scores_of sheet))

unfoldable pub prices_of : List ℕ → List ℕ
prices_of sheet = square (size_of sheet) (price_entry (size_of sheet) (threshold_of sheet) (scores_of sheet))

-- "any refusal prints one line", and nothing else
abbrev pub Said : List ℕ → Finding → List ℕ → Type 0
Said sheet (Err r) text = text ≡ refusal_line (number r) (row_at r) (column_at r)
Said sheet (Ok done) text = Searched (size_of sheet) (edge (size_of sheet) (graph_of sheet)) (toll_of (prices_of sheet)) text

-- the lines of a sheet
abbrev pub Lines : List ℕ → List ℕ → Type 0
Lines sheet text = Said sheet (fault sheet) text

-- "every lent buffer is then unchanged" of a refusal; else the lines, and "Entries beyond what is written stay"
abbrev pub Meant : List ℕ → List ℕ → Result ℕ Refusal → List ℕ → Type 0
Meant lines text (Err r) after = after ≡ text
Meant lines text (Ok size) after = (size ≡ length lines) × (after ≡ lines ++ drop size text)

pub record Promise (sheet text : List ℕ) (r : Result ℕ Refusal) (after : List ℕ) : Type 0 where
  pub lines : List ℕ
  pub right : Lines sheet lines
  -- "Room wanted: .. the whole length for a sheet or other text"
  pub refused : refusal r ≡ first_of (too_short text (length lines) ∷ [])
  pub meant : Meant lines text r after
