-- The contracts of the procedure that calls itself at each node: it leaves the memory as it was, and it does what the tree's
-- run under the step limit does, for every node that the memory stands for. Assumes nothing.
use Rattle.std.specs.Prelude.{◌≡◌, Bool, List, map, ℕ, ◌*◌, ◌≤◌, ◌<◌, length, get_or, take, set}
use Rattle.std.proofs.Math.Option.{Option}
use Rattle.bits.specs.Choice.{count}
use Rattle.graph.specs.Price.{fixed}
use Rattle.walk.specs.Problem as problem
use Rattle.walk.specs.Walk.{opens}
use Rattle.walk.specs.Run.{Outcome, next, run_if, run_tries, run}
use Rattle.walk.specs.Best.{best_of}
use Rattle.repair.specs.Tree.{Node, order, free, add, tree, engine}
use Rattle.memory.specs.declared.Tally.{Tally}
use Rattle.memory.specs.Table.{Place, number_at}
use Rattle.search.specs.declared.tree.Search.{Search}
use Rattle.search.specs.declared.room.Room.{Room}
use Rattle.search.specs.Memory.{Safe, Sound, At, Same, Follows}

-- the run below a node, with the fuel f
abbrev pub runs :
    (n : ℕ) (e : ℕ → ℕ → Bool) (toll : ℕ → ℕ) → Bool → ℕ → ℕ → ℕ → Node → problem.Tally (Option (List ℕ)) →
    Outcome (Option (List ℕ))
runs n e toll prune k most f = run (tree n e toll) (best_of (order toll) k) (engine n e toll prune) most f

-- how many pairs are free at a node
abbrev pub left : ℕ → (ℕ → ℕ) → Node → ℕ
left n toll s = count (free n toll s) (n * n)

-- one way, from an outcome on: "if the pair is free and price plus its price is at most the present limit, .."
abbrev pub tried :
    (n : ℕ) (e : ℕ → ℕ → Bool) (toll : ℕ → ℕ) → Bool → ℕ → ℕ → ℕ → Node → ℕ → Outcome (Option (List ℕ)) →
    Outcome (Option (List ℕ))
tried n e toll prune k most f s x =
    next (λ u. run_if (opens (tree n e toll) (best_of (order toll) k) s x u.kept) (runs n e toll prune k most f (add s x)) u)

-- the ways of a node one after the other
abbrev pub tries :
    (n : ℕ) (e : ℕ → ℕ → Bool) (toll : ℕ → ℕ) → Bool → ℕ → ℕ → ℕ → Node → List ℕ → problem.Tally (Option (List ℕ)) →
    Outcome (Option (List ℕ))
tries n e toll prune k most f = run_tries (tree n e toll) (best_of (order toll) k) (runs n e toll prune k most f)

-- what a call of the procedure may assume: safe memory and a sound tally that is not above the step limit
pub record Ready (n most : ℕ) (words cost path kept : List ℕ) (spent : ℕ) (t : Tally) : Type 0 where
  pub safe : Safe n words cost path kept spent
  pub sound : Sound n most t
  pub large : most < 4294967296

-- the memory that is lent and left as it was
pub record Back (words cost path words' cost' path' : List ℕ) : Type 0 where
  pub words_back : words' ≡ words
  pub cost_back : cost' ≡ cost
  pub path_back : path' ≡ path

-- "Entering a node is one step. At a node: .."
abbrev pub Walked :
    (n : ℕ) (prune : Bool) (most : ℕ) (words cost path kept : List ℕ) (spent : ℕ) (t r : Tally) (kept' : List ℕ) → Type 0
Walked n prune most words cost path kept spent t r kept' =
    (e : ℕ → ℕ → Bool) (toll : ℕ → ℕ) (k f : ℕ) (s : Node) (o : problem.Tally (Option (List ℕ))) →
    At n e toll s words cost path spent → left n toll s < f → Same toll k most o t kept →
    Follows toll k most (runs n e toll prune k most f s o) r kept'

-- ".. Then go through ab, ac, ad, bc, bd, cd: .."
abbrev pub Branched :
    (n : ℕ) (prune : Bool) (most : ℕ) (words cost path kept : List ℕ) (spent : ℕ) (places : List ℕ) (t r : Tally)
    (kept' : List ℕ) → Type 0
Branched n prune most words cost path kept spent places t r kept' =
    (e : ℕ → ℕ → Bool) (toll : ℕ → ℕ) (k f : ℕ) (s : Node) (o : problem.Tally (Option (List ℕ))) →
    At n e toll s words cost path spent → left n toll s ≤ f → Same toll k most o t kept →
    Follows toll k most (tries n e toll prune k most f s (map (number_at n) places) o) r kept'

-- ".. toggle and mark it, search that node, and toggle back."
abbrev pub Tried :
    (n : ℕ) (prune : Bool) (most : ℕ) (words cost path kept : List ℕ) (spent p : ℕ) (t r : Tally) (kept' : List ℕ) → Type 0
Tried n prune most words cost path kept spent p t r kept' =
    (e : ℕ → ℕ → Bool) (toll : ℕ → ℕ) (k f : ℕ) (s : Node) (o : Outcome (Option (List ℕ))) →
    At n e toll s words cost path spent → left n toll s ≤ f → Follows toll k most o t kept →
    Follows toll k most (tried n e toll prune k most f s (number_at n p) o) r kept'

-- what each member of the cycle leaves
pub record NodeLeft
    (n : ℕ) (prune : Bool) (most : ℕ) (words cost path kept : List ℕ) (spent : ℕ) (t r : Tally)
    (words' cost' path' kept' : List ℕ) : Type 0 where
  pub back : Back words cost path words' cost' path'
  pub sound : Sound n most r
  pub walked : Walked n prune most words cost path kept spent t r kept'

pub record WaysLeft
    (n : ℕ) (prune : Bool) (most : ℕ) (words cost path kept : List ℕ) (spent : ℕ) (places : List ℕ) (t r : Tally)
    (words' cost' path' kept' : List ℕ) : Type 0 where
  pub back : Back words cost path words' cost' path'
  pub sound : Sound n most r
  pub branched : Branched n prune most words cost path kept spent places t r kept'

-- "The pair, tried or not, is marked for the rest of this node."
pub record WayLeft
    (n : ℕ) (prune : Bool) (most : ℕ) (words cost path kept : List ℕ) (spent p : ℕ) (t r : Tally)
    (words' cost' path' kept' : List ℕ) : Type 0 where
  pub back : Back words (set cost p fixed) path words' cost' path'
  pub sound : Sound n most r
  pub tried_out : Tried n prune most words cost path kept spent p t r kept'

-- the six places of a quad's pairs
pub record Six (n : ℕ) (places : List ℕ) : Type 0 where
  pub many : length places ≡ 6
  pub each : (w : ℕ) → w < 6 → (get_or places w 0 < 16384) × Place n (get_or places w 0)

-- the same of a search and the room that it works in
abbrev pub IsReady : Search → Room → ℕ → Tally → Type 0
IsReady s m spent t = Ready s.n s.most m.words m.cost m.path m.kept spent t

abbrev pub NodeDone : Search → Room → ℕ → Tally → Tally → Room → Type 0
NodeDone s m spent t r m' =
    NodeLeft s.n s.prune s.most m.words m.cost m.path m.kept spent t r m'.words m'.cost m'.path m'.kept

abbrev pub WaysDone : Search → Room → ℕ → List ℕ → Tally → Tally → Room → Type 0
WaysDone s m spent places t r m' =
    WaysLeft s.n s.prune s.most m.words m.cost m.path m.kept spent places t r m'.words m'.cost m'.path m'.kept

abbrev pub WayDone : Search → Room → ℕ → ℕ → Tally → Tally → Room → Type 0
WayDone s m spent p t r m' =
    WayLeft s.n s.prune s.most m.words m.cost m.path m.kept spent p t r m'.words m'.cost m'.path m'.kept

-- the same of lent parts, of which the path is the first `count` entries of its list
pub record LentReady (n most : ℕ) (words cost path kept : List ℕ) (count spent : ℕ) (t : Tally) : Type 0 where
  pub ready : Ready n most words cost (take count path) kept spent t
  pub long : length path ≡ 8128
  pub inside : count ≤ 8128

abbrev pub LentLeft :
    (n : ℕ) (prune : Bool) (most : ℕ) (words cost path kept : List ℕ) (count spent : ℕ) (t r : Tally)
    (words' cost' path' kept' : List ℕ) → Type 0
LentLeft n prune most words cost path kept count spent t r words' cost' path' kept' =
    NodeLeft n prune most words cost (take count path) kept spent t r words' cost' (take count path') kept'
