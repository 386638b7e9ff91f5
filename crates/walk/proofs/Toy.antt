-- A toy problem, its tree by hand: three things at price 1, and an answer is a set with one of the first two and with
-- the third. proofs/ToyLaws shows that it obeys the laws; here its figures are computed. Assumes nothing.
use Prim.Native.Nat.{ℕ, ◌+◌, ◌*◌}
use mathlib.Core.Path.{◌≡◌, refl}
use mathlib.Core.Bool.{Bool, true, false, ◌&&◌, ◌||◌}
use mathlib.Core.List.{List, [], ◌∷◌}
use mathlib.Core.Option.{none, some}
use lib.Dec.{ltb}
use Rattle.bits.specs.Choice.{pick}
use Rattle.walk.specs.Problem.{Problem}
use Rattle.walk.specs.Walk.{entered, only_if, found, opens, tries, branch, visit, node, walk, plain, begin}
use Rattle.walk.specs.Run.{stopped, whole, next, run_if, run_tries, run_branch, run_visit, run_enter, run_node, run}
use Rattle.walk.specs.Best.{Order, best_of, keep_better, limit_of}

pub data Thing : Type 0 where
  first : Thing
  second : Thing
  third : Thing

-- a thing is open, taken or shut
pub data Mark : Type 0 where
  ajar : Mark
  taken : Mark
  shut : Mark

pub record Three (A : Type 0) : Type 0 where
  pub x : A
  pub y : A
  pub z : A

abbrev pub at : {A : Type 0} → Three A → Thing → A
at t first = t.x
at t second = t.y
at t third = t.z

abbrev pub put : {A : Type 0} → Three A → Thing → A → Three A
put t first a = record { x = a; y = t.y; z = t.z }
put t second a = record { x = t.x; y = a; z = t.z }
put t third a = record { x = t.x; y = t.y; z = a }

abbrev pub is_taken : Mark → Bool
is_taken ajar = false
is_taken taken = true
is_taken shut = false

abbrev pub is_open : Mark → Bool
is_open ajar = true
is_open taken = false
is_open shut = false

abbrev pub close : Mark → Mark
close ajar = shut
close taken = taken
close shut = shut

-- the set of what is taken, its size, and whether it is an answer
abbrev pub set_of : Three Mark → Three Bool
set_of s = record { x = is_taken s.x; y = is_taken s.y; z = is_taken s.z }

abbrev pub size : Three Bool → ℕ
size a = pick a.x 1 0 + pick a.y 1 0 + pick a.z 1 0

abbrev pub enough : Three Bool → Bool
enough a = (a.x || a.y) && a.z

-- what is missing: one of the first two, or the third
abbrev pub missing : Bool → List Thing
missing true = third ∷ []
missing false = first ∷ second ∷ []

abbrev pub toy : Problem
toy =
    record {
      Node = Three Mark;
      Way = Thing;
      Answer = Three Bool;
      done = λ s. enough (set_of s);
      answer = set_of;
      ways = λ s. missing (is_taken s.x || is_taken s.y);
      free = λ s w. is_open (at s w);
      spent = λ s. size (set_of s);
      toll = λ w. 1;
      add = λ s w. put s w taken;
      mark = λ s w. put s w (close (at s w));
    }

-- price first, then the list of what is in the set
abbrev pub rank : Three Bool → ℕ
rank a = size a * 8 + (pick a.x 0 4 + pick a.y 0 2 + pick a.z 0 1)

abbrev pub order : Order (Three Bool)
order = record { price = size; better = λ a b. ltb (rank a) (rank b) }

-- a packing: the first two, and the third, each asks for one more
abbrev pub bound : Three Mark → ℕ
bound s = pick (is_taken s.x || is_taken s.y) 0 1 + pick (is_taken s.z) 0 1

abbrev pub pruned : Three Mark → ℕ → Bool
pruned s limit = ltb limit (size (set_of s) + bound s)

abbrev pub root : Three Mark
root = record { x = ajar; y = ajar; z = ajar }

abbrev pub answer : Three Bool
answer = record { x = true; y = false; z = true }

-- within 2: the first and the third, the smaller of two lists of that price; five nodes, either engine.
-- Within 1: none; three nodes plain, one pruned
walks_table :
    (
    walk toy (best_of order 2) (plain toy) 4 root (begin (best_of order 2))
    ∷ walk toy (best_of order 2) pruned 4 root (begin (best_of order 2))
    ∷ walk toy (best_of order 1) (plain toy) 4 root (begin (best_of order 1))
    ∷ walk toy (best_of order 1) pruned 4 root (begin (best_of order 1))
    ∷ []
    ) ≡
    (
    record { steps = 5; kept = some answer }
    ∷ record { steps = 5; kept = some answer }
    ∷ record { steps = 3; kept = none }
    ∷ record { steps = 1; kept = none }
    ∷ []
    )
unfolding walk node visit branch tries opens found only_if entered plain keep_better limit_of
walks_table = refl

-- five nodes under a step limit of 0, 4 and 5
runs_table :
    (
    run toy (best_of order 2) (plain toy) 0 4 root (begin (best_of order 2))
    ∷ run toy (best_of order 2) (plain toy) 4 4 root (begin (best_of order 2))
    ∷ run toy (best_of order 2) (plain toy) 5 4 root (begin (best_of order 2))
    ∷ []
    ) ≡
    (stopped 0 ∷ stopped 4 ∷ whole (record { steps = 5; kept = some answer }) ∷ [])
unfolding run run_node run_enter run_visit run_branch run_tries next run_if opens found entered plain keep_better limit_of
runs_table = refl
