-- Document 01's search tree of a graph, and both engines' walks of it. Assumes nothing.
use Rattle.std.specs.Prelude.{ℕ, suc, ◌+◌, ◌*◌, Bool, true, false, not, ◌&&◌, List, [], ◌∷◌, ltb}
use Rattle.std.proofs.Math.Option.{Option}
use Rattle.bits.specs.Choice.{pick}
use Rattle.std.specs.Prelude.{Option as Found, None, Some}
use Rattle.graph.specs.declared.Quad.{Quad}
use Rattle.graph.specs.Quad.{quads, first}
use Rattle.walk.specs.Problem.{Problem, Tally}
use Rattle.walk.specs.Walk.{walk, begin, plain}
use Rattle.walk.specs.Run.{Outcome, run}
use Rattle.walk.specs.Best.{Order, best_of}
use Rattle.repair.specs.Pair.{changeable, member}
use Rattle.repair.specs.Better.{price, better}
use Rattle.repair.specs.Repair.{toggled}
use Rattle.repair.specs.Packing.{pairs_of, packing}

-- x at its place in an "ascending list of pair numbers"
unfoldable pub insert : ℕ → List ℕ → List ℕ
insert x [] = x ∷ []
insert x (y ∷ ys) = pick (ltb x y) (x ∷ y ∷ ys) (y ∷ insert x ys)

-- a node: the pairs toggled on the way to it, ascending, and the pairs marked there
pub record Node : Type 0 where
  pub path : List ℕ
  pub marks : List ℕ

-- "The root has price 0 and no marks."
abbrev pub root : Node
root = record { path = []; marks = [] }

abbrev pub is_clear : Found Quad → Bool
is_clear (Some q) = false
is_clear None = true

-- "take the first in listing order .. ab, ac, ad, bc, bd, cd"
abbrev pub ways_of : ℕ → Found Quad → List ℕ
ways_of n (Some q) = pairs_of n q
ways_of n None = []

-- "The one returned has the lowest price; among equals .."
abbrev pub order : (ℕ → ℕ) → Order (List ℕ)
order toll = record { price = price toll; better = better toll }

-- the graph as it is at a node
unfoldable pub present : ℕ → (ℕ → ℕ → Bool) → Node → ℕ → ℕ → Bool
present n e s = toggled n e s.path

-- "A pair is free if it is neither fixed nor marked."
unfoldable pub free : ℕ → (ℕ → ℕ) → Node → ℕ → Bool
free n toll s x = changeable n toll x && not (member x s.marks)

-- "The pair, tried or not, is marked for the rest of this node."
unfoldable pub mark : Node → ℕ → Node
mark s x = record { path = s.path; marks = x ∷ s.marks }

-- "toggle and mark it"
unfoldable pub add : Node → ℕ → Node
add s x = record { path = insert x s.path; marks = x ∷ s.marks }

-- the graph has n vertices and the edges e; `toll` are the prices by number
module _ (n : ℕ) (e : ℕ → ℕ → Bool) (toll : ℕ → ℕ) where
  abbrev pub tree : Problem
  tree =
      record {
        Node = Node;
        Way = ℕ;
        Answer = List ℕ;
        done = λ s. is_clear (first (quads n (present n e s)));
        answer = λ s. s.path;
        ways = λ s. ways_of n (first (quads n (present n e s)));
        free = free n toll;
        spent = λ s. price toll s.path;
        toll = toll;
        add = add;
        mark = mark;
      }

  -- "The pruned engine leaves the node if price plus packing bound exceeds the limit."
  unfoldable pub pruned : Node → ℕ → Bool
  pruned s limit = ltb limit (price toll s.path + packing n (free n toll s) toll (quads n (present n e s)))

  -- "Both engines, plain and pruned, are public.": is this the pruned one
  abbrev pub engine : Bool → Node → ℕ → Bool
  engine false = plain tree
  engine true = pruned

  -- an engine's whole tree walked: its nodes counted, and what is kept; no way down is longer than there are numbers
  unfoldable pub walked : Bool → ℕ → Tally (Option (List ℕ))
  walked prune k =
      walk tree (best_of (order toll) k) (engine prune) (suc (n * n)) root (begin (best_of (order toll) k))

  -- the same under the step limit
  unfoldable pub searched : Bool → ℕ → ℕ → Outcome (Option (List ℕ))
  searched prune k most =
      run tree (best_of (order toll) k) (engine prune) most (suc (n * n)) root (begin (best_of (order toll) k))
