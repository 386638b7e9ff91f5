-- What a search tree is grown from, and what the search carries along. Graphs and pairs are one instance.
-- Assumes nothing.
use Rattle.std.specs.Prelude.{ℕ, Bool, List}

-- A node is a state of the search with its price and its marks; a way is a pair that may be toggled there.
pub record Problem : Type 1 where
  pub Node : Type 0
  pub Way : Type 0
  pub Answer : Type 0
  -- "no quad: it is a repair"
  pub done : Node → Bool
  pub answer : Node → Answer
  -- "a quad: .. go through ab, ac, ad, bc, bd, cd"
  pub ways : Node → List Way
  -- "A pair is free if it is neither fixed nor marked."
  pub free : Node → Way → Bool
  -- the node's price, and the pair's
  pub spent : Node → ℕ
  pub toll : Way → ℕ
  -- "toggle and mark it"
  pub add : Node → Way → Node
  -- "The pair, tried or not, is marked for the rest of this node."
  pub mark : Node → Way → Node

-- What is kept of the answers met, and the limit that goes with it.
pub record Keeper (Answer : Type 0) : Type 1 where
  pub Kept : Type 0
  pub empty : Kept
  pub keep : Kept → Answer → Kept
  pub limit : Kept → ℕ

-- "One running tally": the limit is the keeper's, by what is kept.
pub record Tally (Kept : Type 0) : Type 0 where
  pub steps : ℕ
  pub kept : Kept
