-- The working memory of the search, and what it stands for: a node of document 01's tree, and the tally. Assumes nothing.
use Rattle.std.specs.Prelude.{◌≡◌, Bool, true, List, ℕ, suc, ◌+◌, ◌*◌, ◌-◌, ◌/◌, ◌≤◌, ◌<◌, length, get_or, take}
use Rattle.std.specs.Prelude as prelude
use Rattle.std.proofs.Math.Option.{Option, none, some}
use Rattle.bits.specs.Choice.{count}
use Rattle.graph.specs.Graph.{IsGraph, word_edge}
use Rattle.graph.specs.Price.{fixed}
use Rattle.graph.specs.Rows.{AreWords}
use Rattle.walk.specs.Problem as problem
use Rattle.walk.specs.Run.{Outcome, stopped, whole}
use Rattle.walk.specs.Best.{limit_of}
use Rattle.repair.specs.Pair.{is_pair, member}
use Rattle.repair.specs.Better.{price}
use Rattle.repair.specs.Tree.{Node, order, present, free}
use Rattle.memory.specs.declared.Tally.{Tally}
use Rattle.bound.specs.Table.{toll_at, free_at}
use Rattle.memory.specs.Table.{Place}
use Rattle.memory.specs.Tally.{budget, Within}

-- "n(n-1)/2": how many pairs n vertices have
unfoldable pub pairs : ℕ → ℕ
pairs n = n * (n - 1) / 2

-- "falling number is the count of free pairs"
unfoldable pub open_pairs : ℕ → List ℕ → ℕ
open_pairs n cost = count (free_at n cost) (n * n)

-- what every node's memory is: lengths, a graph, a table with free pairs of the n vertices alone, and room for them all
pub record Safe (n : ℕ) (words cost path kept : List ℕ) (spent : ℕ) : Type 0 where
  pub few : n ≤ 128
  pub shape : AreWords words
  pub graph : IsGraph n (word_edge words)
  pub table : length cost ≡ 16384
  pub placed : (p : ℕ) → p < 16384 → get_or cost p 0 < fixed → Place n p
  pub wide : length kept ≡ 8128
  pub room : length path + open_pairs n cost ≤ pairs n
  pub paid : spent ≤ budget

-- what every tally is
pub record Sound (n most : ℕ) (t : Tally) : Type 0 where
  pub counted : t.steps ≤ suc most
  pub bounded : t.limit ≤ budget
  pub listed : Within t.kept (pairs n)

-- the memory stands for the node s of the tree of the graph e at the prices `toll`
pub record At (n : ℕ) (e : ℕ → ℕ → Bool) (toll : ℕ → ℕ) (s : Node) (words cost path : List ℕ) (spent : ℕ) : Type 0 where
  pub edges : word_edge words ≡ present n e s
  pub opens : (x : ℕ) → is_pair n x ≡ true → free_at n cost x ≡ free n toll s x
  pub tolls : (x : ℕ) → free n toll s x ≡ true → toll_at n cost x ≡ toll x
  pub trail : path ≡ s.path
  pub price : spent ≡ price toll s.path
  pub held : (x : ℕ) → member x s.path ≡ true → member x s.marks ≡ true

-- what is kept: nothing, or the list's first entries, as many as are told
abbrev pub Holds : prelude.Option ℕ → List ℕ → Option (List ℕ) → Type 0
Holds told list none = told ≡ prelude.None
Holds told list (some r) = (told ≡ prelude.Some (length r)) × (take (length r) list ≡ r)

-- the tally is the tree's, and not above the step limit
pub record Same (toll : ℕ → ℕ) (k most : ℕ) (o : problem.Tally (Option (List ℕ))) (t : Tally) (list : List ℕ) : Type 0 where
  pub steps : t.steps ≡ o.steps
  pub within : t.steps ≤ most
  pub limit : t.limit ≡ limit_of (order toll) k o.kept
  pub kept : Holds t.kept list o.kept

-- the tally is the outcome's: one step too many where it is stopped
abbrev pub Follows : (ℕ → ℕ) → ℕ → ℕ → Outcome (Option (List ℕ)) → Tally → List ℕ → Type 0
Follows toll k most (stopped m) t list = most < t.steps
Follows toll k most (whole o) t list = Same toll k most o t list
