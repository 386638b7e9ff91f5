-- Document 01's marked figures on searches, with some of the bound, as one table with one claim: each row's search, by the
-- row's engine, gives the row's repair, price and steps, and each row's bound is the packing bound. Proved by computing.
-- Assumes nothing.
use mathlib.Core.Path.{◌≡◌, refl}
use mathlib.Core.Bool.{Bool, true, false, ◌&&◌}
use mathlib.Core.List.{List, [], ◌∷◌}
use mathlib.Core.Option.{Option, none, some}
use Prim.Native.Nat.{ℕ}
use lib.Dec.{eqb}
use Rattle.bits.specs.Choice.{pick}
use Rattle.graph.specs.Graph.{edge}
use Rattle.graph.specs.Quad.{quads, is_quad, named}
use Rattle.graph.specs.Each.{each, only}
use Rattle.walk.specs.Problem.{Tally}
use Rattle.walk.specs.Walk.{entered, only_if, found, opens, tries, branch, visit, node, walk, plain}
use Rattle.walk.specs.Best.{keep_better, limit_of}
use Rattle.repair.specs.Pair.{pair_of, is_pair, changeable, member}
use Rattle.repair.specs.Better.{smaller, price, better}
use Rattle.repair.specs.Repair.{toll_of, toggled}
use Rattle.repair.specs.Packing.{pairs_of, those, share, lowest, empty, hopeless, stuck, packed, packing}
use Rattle.repair.specs.Tree.{insert, present, free, mark, add, pruned, walked}

-- path 0-1-2-3
abbrev pub path : List ℕ
path =
    0 ∷ 1 ∷ 0 ∷ 0 ∷
    1 ∷ 0 ∷ 1 ∷ 0 ∷
    0 ∷ 1 ∷ 0 ∷ 1 ∷
    0 ∷ 0 ∷ 1 ∷ 0 ∷ []

-- cycle 0-1-2-3
abbrev pub cycle : List ℕ
cycle =
    0 ∷ 1 ∷ 0 ∷ 1 ∷
    1 ∷ 0 ∷ 1 ∷ 0 ∷
    0 ∷ 1 ∷ 0 ∷ 1 ∷
    1 ∷ 0 ∷ 1 ∷ 0 ∷ []

-- path 0-1-2-3-4: two quads with three pairs in common
abbrev pub five_path : List ℕ
five_path =
    0 ∷ 1 ∷ 0 ∷ 0 ∷ 0 ∷
    1 ∷ 0 ∷ 1 ∷ 0 ∷ 0 ∷
    0 ∷ 1 ∷ 0 ∷ 1 ∷ 0 ∷
    0 ∷ 0 ∷ 1 ∷ 0 ∷ 1 ∷
    0 ∷ 0 ∷ 0 ∷ 1 ∷ 0 ∷ []

-- two separate such paths
abbrev pub two_paths : List ℕ
two_paths =
    0 ∷ 1 ∷ 0 ∷ 0 ∷ 0 ∷ 0 ∷ 0 ∷ 0 ∷
    1 ∷ 0 ∷ 1 ∷ 0 ∷ 0 ∷ 0 ∷ 0 ∷ 0 ∷
    0 ∷ 1 ∷ 0 ∷ 1 ∷ 0 ∷ 0 ∷ 0 ∷ 0 ∷
    0 ∷ 0 ∷ 1 ∷ 0 ∷ 0 ∷ 0 ∷ 0 ∷ 0 ∷
    0 ∷ 0 ∷ 0 ∷ 0 ∷ 0 ∷ 1 ∷ 0 ∷ 0 ∷
    0 ∷ 0 ∷ 0 ∷ 0 ∷ 1 ∷ 0 ∷ 1 ∷ 0 ∷
    0 ∷ 0 ∷ 0 ∷ 0 ∷ 0 ∷ 1 ∷ 0 ∷ 1 ∷
    0 ∷ 0 ∷ 0 ∷ 0 ∷ 0 ∷ 0 ∷ 1 ∷ 0 ∷ []

-- prices in pair order 5, 3, 1, 4, 3, 5
abbrev pub in_order : List ℕ
in_order =
    0 ∷ 5 ∷ 3 ∷ 1 ∷
    5 ∷ 0 ∷ 4 ∷ 3 ∷
    3 ∷ 4 ∷ 0 ∷ 5 ∷
    1 ∷ 3 ∷ 5 ∷ 0 ∷ []

-- all fixed but (0, 3) at 1
abbrev pub fixed_but : List ℕ
fixed_but =
    0 ∷ 65535 ∷ 65535 ∷ 1 ∷
    65535 ∷ 0 ∷ 65535 ∷ 65535 ∷
    65535 ∷ 65535 ∷ 0 ∷ 65535 ∷
    1 ∷ 65535 ∷ 65535 ∷ 0 ∷ []

-- "all prices 1"
abbrev pub ones : ℕ → List ℕ
ones n = each n (λ i. each n (λ j. pick (eqb i j) 0 1 ∷ []))

-- a search and what it gives; no repair has price 0
pub record Search : Type 0 where
  pub vertices : ℕ
  pub graph : List ℕ
  pub prices : List ℕ
  pub budget : ℕ
  pub repair : Option (List ℕ)
  pub cost : ℕ
  pub plain_steps : ℕ
  pub pruned_steps : ℕ

-- a graph with marks, and its bound
pub record Marked : Type 0 where
  pub vertices : ℕ
  pub graph : List ℕ
  pub prices : List ℕ
  pub marks : List ℕ
  pub least : ℕ

pub data Row : Type 0 where
  search : Search → Row
  bound : Marked → Row

abbrev pub same_list : List ℕ → List ℕ → Bool
same_list [] [] = true
same_list [] (y ∷ ys) = false
same_list (x ∷ xs) [] = false
same_list (x ∷ xs) (y ∷ ys) = eqb x y && same_list xs ys

abbrev pub same_repair : Option (List ℕ) → Option (List ℕ) → Bool
same_repair none none = true
same_repair none (some b) = false
same_repair (some a) none = false
same_repair (some a) (some b) = same_list a b

abbrev pub cost_of : (ℕ → ℕ) → Option (List ℕ) → ℕ
cost_of toll none = 0
cost_of toll (some a) = price toll a

abbrev pub agrees : Search → ℕ → Tally (Option (List ℕ)) → Bool
agrees r steps t =
    same_repair t.kept r.repair && eqb (cost_of (toll_of r.prices) t.kept) r.cost && eqb t.steps steps

abbrev pub engine_walk : Search → Bool → Tally (Option (List ℕ))
engine_walk r prune = walked r.vertices (edge r.vertices r.graph) (toll_of r.prices) prune r.budget

abbrev pub bound_of : Marked → ℕ
bound_of r =
    packing r.vertices (free r.vertices (toll_of r.prices) (record { path = []; marks = r.marks }))
    (toll_of r.prices) (quads r.vertices (edge r.vertices r.graph))

abbrev pub holds : Row → Bool
holds (search r) = agrees r r.plain_steps (engine_walk r false) && agrees r r.pruned_steps (engine_walk r true)
holds (bound r) = eqb (bound_of r) r.least

abbrev pub all_hold : List Row → Bool
all_hold [] = true
all_hold (r ∷ rs) = holds r && all_hold rs

-- "that first path, all prices 1: k = 0 gives 8, one step"
abbrev pub path_none : Search
path_none =
    record {
      vertices = 4;
      graph = path;
      prices = ones 4;
      budget = 0;
      repair = none;
      cost = 0;
      plain_steps = 1;
      pruned_steps = 1;
    }

-- "k = 1 gives {1}, 7 steps, either engine"
abbrev pub path_one : Search
path_one =
    record {
      vertices = 4;
      graph = path;
      prices = ones 4;
      budget = 1;
      repair = some (1 ∷ []);
      cost = 1;
      plain_steps = 7;
      pruned_steps = 7;
    }

-- "cycle 0-1-2-3, prices 1, k = 1: {2}, 7 steps"
abbrev pub cycle_one : Search
cycle_one =
    record {
      vertices = 4;
      graph = cycle;
      prices = ones 4;
      budget = 1;
      repair = some (2 ∷ []);
      cost = 1;
      plain_steps = 7;
      pruned_steps = 7;
    }

-- "first path, prices in pair order 5, 3, 1, 4, 3, 5, k = 10: {2}, price 3, 5 steps"
abbrev pub path_priced : Search
path_priced =
    record {
      vertices = 4;
      graph = path;
      prices = in_order;
      budget = 10;
      repair = some (2 ∷ []);
      cost = 3;
      plain_steps = 5;
      pruned_steps = 5;
    }

-- "two separate such paths, n = 8, prices 1, k = 1: 8; plain 7 steps, pruned 1"
abbrev pub two_paths_none : Search
two_paths_none =
    record {
      vertices = 8;
      graph = two_paths;
      prices = ones 8;
      budget = 1;
      repair = none;
      cost = 0;
      plain_steps = 7;
      pruned_steps = 1;
    }

-- "first path, all fixed but (0,3) at 1, k = 10: 8, 2 steps"
abbrev pub fixed_none : Search
fixed_none =
    record {
      vertices = 4;
      graph = path;
      prices = fixed_but;
      budget = 10;
      repair = none;
      cost = 0;
      plain_steps = 2;
      pruned_steps = 2;
    }

-- the bound of a graph with these numbers marked
abbrev pub marked : ℕ → List ℕ → List ℕ → List ℕ → ℕ → Row
marked n g ps ms least = bound (record { vertices = n; graph = g; prices = ps; marks = ms; least = least })

abbrev pub figures : List Row
figures =
    search path_none ∷ search path_one ∷ search cycle_one ∷ search path_priced ∷ search two_paths_none ∷ search fixed_none ∷
    marked 4 path in_order [] 1 ∷
    marked 4 path in_order (3 ∷ []) 3 ∷
    marked 4 path fixed_but [] 1 ∷
    marked 4 path fixed_but (3 ∷ []) hopeless ∷
    marked 5 five_path (ones 5) [] 1 ∷
    marked 8 two_paths (ones 8) [] 2 ∷ []

-- every row of the table holds
pub figures_hold : all_hold figures ≡ true
unfolding
    walked walk node visit branch tries only_if opens found entered plain keep_better limit_of present free mark add insert
    pruned packing packed stuck those share lowest empty pairs_of pair_of member changeable is_pair toggled price better
    smaller edge quads is_quad named each only
figures_hold = refl
