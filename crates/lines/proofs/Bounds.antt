-- How long the lines are at most: a number below 10^k has at most k digits, so 131,072 bytes are room for every page.
-- Assumes nothing.
use mathlib.Core.Path.{◌≡◌, ◌∙◌, ap}
use mathlib.Core.Logic.{◌⊎◌, inl, inr}
use mathlib.Core.Bool.{Bool, true, false}
use mathlib.Core.List.{List, [], ◌∷◌, ◌++◌}
use Prim.Native.Nat.{ℕ, zero, suc, ◌+◌, ◌*◌, ◌/◌, ◌%◌, ◌≤◌, ◌<◌}
use native.Mathlib.Nat.{suc-mul}
use native.Mathlib.Omega.{arith}
use lib.ListN.{length, get_or, length-append}
use lib.Dec.{eqb}
use borrow.Author.Tests.{eqb-false}
use Rattle.bits.specs.Choice.{pick}
use Rattle.bits.proofs.Truth.{below, which, pick_true, pick_false}
use Rattle.bits.proofs.Counting.{count_le}
use Rattle.graph.specs.Each.{each}
use Rattle.graph.specs.Graph.{IsGraph}
use Rattle.forest.specs.Order.{nobody, parent}
use Rattle.forest.specs.Forest.{roots}
use Rattle.forest.proofs.Groups.{parents_bounded}
use Rattle.scores.proofs.Squares.{row_column}
use Rattle.lines.specs.Text.{bytes, digit, decimal}
use Rattle.lines.specs.Lines.{said, one, two, three, refusal_line, stopped_line, vertices_line, answer_line, change_line, change_lines, parent_line, parent_lines, groups_line, tree_lines}
use Rattle.lines.proofs.Decimals.{decimal_small, decimal_large}

-- 10 x 10 x ..
abbrev pub tens : ℕ → ℕ
tens zero = 1
tens (suc k) = 10 * tens k

-- a number below 10^k has at most k digits
pub decimal_short : (k x : ℕ) → x < tens (suc k) → length (decimal x) ≤ suc k
decimal_short zero x h = omega (arith, ap length (decimal_small x (omega arith)))
decimal_short (suc k) x h = go (decimal_short k (x / 10)) (below x 10)
  where
    go : (x / 10 < tens (suc k) → length (decimal (x / 10)) ≤ suc k) → (x < 10) ⊎ (10 ≤ x) → length (decimal x) ≤ suc (suc k)
    go shorter (inl l) = omega (arith, ap length (decimal_small x l))
    go shorter (inr l) =
        omega (
          arith,
          ap length (decimal_large x l),
          length-append (decimal (x / 10)) (digit (x % 10) ∷ []),
          shorter (omega arith),
        )

-- lines are as long as their words, their numbers and the line's end
said_long : (word : List ℕ) (x : ℕ) → length (said word x) ≡ length word + length (decimal x)
said_long word x = length-append word (decimal x)

one_long : (word : List ℕ) (x : ℕ) → length (one word x) ≡ length word + length (decimal x) + 1
unfolding one
one_long word x = length-append (said word x) (bytes "\n") ∙ omega (arith, said_long word x)

two_long :
    (word : List ℕ) (x : ℕ) (other : List ℕ) (y : ℕ) →
    length (two word x other y) ≡ length word + length (decimal x) + length other + length (decimal y) + 1
unfolding two
two_long word x other y =
    length-append (said word x) (one other y) ∙ omega (arith, said_long word x, one_long other y)

three_long :
    (word : List ℕ) (x : ℕ) (other : List ℕ) (y : ℕ) (last : List ℕ) (z : ℕ) →
    length (three word x other y last z) ≡
    length word + length (decimal x) + length other + length (decimal y) + length last + length (decimal z) + 1
unfolding three
three_long word x other y last z =
    length-append (said word x) (two other y last z) ∙ omega (arith, said_long word x, two_long other y last z)

-- a line for each of n numbers
each_short : (f : ℕ → List ℕ) (m n : ℕ) → ((k : ℕ) → k < n → length (f k) ≤ m) → length (each n f) ≤ n * m
unfolding each
each_short f m zero h = omega arith
each_short f m (suc n) h =
    omega (
      arith,
      length-append (each n f) (f n),
      each_short f m n (λ k l. h k (omega arith)),
      h n (omega arith),
      suc-mul n m,
    )

-- of a refusal, whatever its numbers
pub refusal_short :
    (number i j : ℕ) → number < tens 20 → i < tens 20 → j < tens 20 → length (refusal_line number i j) ≤ 131072
refusal_short number i j a b c =
    omega (
      arith,
      three_long (bytes "answer ") number (bytes " place ") i (bytes " ") j,
      decimal_short 19 number a,
      decimal_short 19 i b,
      decimal_short 19 j c,
    )

pub stopped_short : (steps : ℕ) → steps < tens 20 → length (stopped_line steps) ≤ 131072
stopped_short steps h = omega (arith, one_long (bytes "answer 9 steps ") steps, decimal_short 19 steps h)

module _ (n : ℕ) (few : n ≤ 128) where
  vertices_short : length (vertices_line n) ≤ 13
  vertices_short = omega (arith, one_long (bytes "vertices ") n, decimal_short 2 n (omega arith))

  answer_short :
      (cost edits steps : ℕ) → cost < tens 8 → edits < tens 8 → steps < tens 8 → length (answer_line cost edits steps) ≤ 53
  answer_short cost edits steps a b c =
      omega (
        arith,
        three_long (bytes "answer 0 cost ") cost (bytes " edits ") edits (bytes " steps ") steps,
        decimal_short 7 cost a,
        decimal_short 7 edits b,
        decimal_short 7 steps c,
      )

  change_short : (e : ℕ → ℕ → Bool) (x : ℕ) → x < n * n → length (change_line n e x) ≤ 13
  unfolding change_line
  change_short e x h = go (e (x / n) (x % n))
    where
      at : (x / n < n) × (x % n < n) × (0 < n)
      at = row_column n x h

      go :
          (b : Bool) →
          length
          (pick b (two (bytes "cut ") (x / n) (bytes " ") (x % n)) (two (bytes "join ") (x / n) (bytes " ") (x % n))) ≤
          13
      go true =
          omega (
            arith,
            two_long (bytes "cut ") (x / n) (bytes " ") (x % n),
            decimal_short 2 (x / n) (omega (arith, at.0)),
            decimal_short 2 (x % n) (omega (arith, at.1)),
          )
      go false =
          omega (
            arith,
            two_long (bytes "join ") (x / n) (bytes " ") (x % n),
            decimal_short 2 (x / n) (omega (arith, at.0)),
            decimal_short 2 (x % n) (omega (arith, at.1)),
          )

  parent_short : (v p : ℕ) → v < n → (p ≡ nobody) ⊎ (p < n) → length (parent_line v p) ≤ 15
  unfolding parent_line
  parent_short v p h q = go (which (eqb p nobody)) q
    where
      go : (eqb p nobody ≡ true) ⊎ (eqb p nobody ≡ false) → (p ≡ nobody) ⊎ (p < n) → length (parent_line v p) ≤ 15
      go (inl t) w =
          omega (
            arith,
            ap length (pick_true (said (bytes "parent ") v ++ bytes " -\n") (two (bytes "parent ") v (bytes " ") p) t),
            length-append (said (bytes "parent ") v) (bytes " -\n"),
            said_long (bytes "parent ") v,
            decimal_short 2 v (omega arith),
          )
      go (inr t) (inl e) = absurd (eqb-false p nobody t e)
      go (inr t) (inr l) =
          omega (
            arith,
            ap length (pick_false (said (bytes "parent ") v ++ bytes " -\n") (two (bytes "parent ") v (bytes " ") p) t),
            two_long (bytes "parent ") v (bytes " ") p,
            decimal_short 2 v (omega arith),
            decimal_short 2 p (omega arith),
          )

  groups_short : (p : ℕ → ℕ) → length (groups_line (roots n p)) ≤ 11
  unfolding roots
  groups_short p =
      omega (
        arith,
        one_long (bytes "groups ") (roots n p),
        decimal_short 2 (roots n p) (omega (arith, count_le (λ v. eqb (p v) nobody) n)),
      )

  trees_short : (e : ℕ → ℕ → Bool) → IsGraph n e → length (tree_lines n e) ≤ 1931
  trees_short e graph =
      let bounded = parents_bounded graph (omega arith) in
      omega (
        arith,
        length-append (parent_lines n (parent n e)) (groups_line (roots n (parent n e))),
        each_short (λ v. parent_line v (parent n e v)) 15 n (λ v h. parent_short v (parent n e v) h (bounded.vertex v)),
        groups_short (parent n e),
      )

  -- all lines of a repair
  pub page_short :
      (e f : ℕ → ℕ → Bool) (repair : List ℕ) (cost steps : ℕ) → IsGraph n f → length repair ≤ 8128 →
      ((k : ℕ) → k < length repair → get_or repair k 0 < n * n) → cost < tens 8 → steps < tens 8 →
      length ((vertices_line n ++ answer_line cost (length repair) steps) ++ change_lines n e repair ++ tree_lines n f) ≤
      131072
  page_short e f repair cost steps graph short inside a c =
      omega (
        arith,
        length-append ((vertices_line n ++ answer_line cost (length repair) steps) ++ change_lines n e repair) (tree_lines n f),
        length-append (vertices_line n ++ answer_line cost (length repair) steps) (change_lines n e repair),
        length-append (vertices_line n) (answer_line cost (length repair) steps),
        vertices_short,
        answer_short cost (length repair) steps a (omega arith) c,
        each_short (λ k. change_line n e (get_or repair k 0)) 13 (length repair) (λ k h. change_short e (get_or repair k 0) (inside k h)),
        trees_short f graph,
      )
