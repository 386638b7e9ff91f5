-- The lines of "The report program". Assumes nothing.
use Rattle.std.specs.Prelude.{ℕ, ◌/◌, ◌%◌, Bool, List, ◌++◌, length, get_or, eqb}
use Rattle.bits.specs.Choice.{pick}
use Rattle.graph.specs.Each.{each}
use Rattle.forest.specs.Order.{nobody, parent}
use Rattle.forest.specs.Forest.{roots}
use Rattle.lines.specs.Text.{bytes, decimal}

-- a word and a number; and lines of one, two and three of these
abbrev pub said : List ℕ → ℕ → List ℕ
said word x = word ++ decimal x

unfoldable pub one : List ℕ → ℕ → List ℕ
one word x = said word x ++ bytes "\n"

unfoldable pub two : List ℕ → ℕ → List ℕ → ℕ → List ℕ
two word x other y = said word x ++ one other y

unfoldable pub three : List ℕ → ℕ → List ℕ → ℕ → List ℕ → ℕ → List ℕ
three word x other y last z = said word x ++ two other y last z

-- "any refusal prints one line, `answer R place I J`"
abbrev pub refusal_line : ℕ → ℕ → ℕ → List ℕ
refusal_line number i j = three (bytes "answer ") number (bytes " place ") i (bytes " ") j

-- "for 9, `answer 9 steps S`"
abbrev pub stopped_line : ℕ → List ℕ
stopped_line steps = one (bytes "answer 9 steps ") steps

-- "The first line gives n"
abbrev pub vertices_line : ℕ → List ℕ
vertices_line n = one (bytes "vertices ") n

-- "the second the answer, the repair's price, how many pairs it changes, and the steps"
abbrev pub answer_line : ℕ → ℕ → ℕ → List ℕ
answer_line cost edits steps = three (bytes "answer 0 cost ") cost (bytes " edits ") edits (bytes " steps ") steps

-- "One `cut` or `join` line for each changed pair, ascending (edge removed, or added)"; the pair's number is i x n + j
unfoldable pub change_line : ℕ → (ℕ → ℕ → Bool) → ℕ → List ℕ
change_line n e x =
    pick (e (x / n) (x % n)) (two (bytes "cut ") (x / n) (bytes " ") (x % n))
    (two (bytes "join ") (x / n) (bytes " ") (x % n))

abbrev pub change_lines : ℕ → (ℕ → ℕ → Bool) → List ℕ → List ℕ
change_lines n e repair = each (length repair) (λ k. change_line n e (get_or repair k 0))

-- "one `parent` line per vertex"; "`-` is no parent"
unfoldable pub parent_line : ℕ → ℕ → List ℕ
parent_line v p =
    pick (eqb p nobody) (said (bytes "parent ") v ++ bytes " -\n") (two (bytes "parent ") v (bytes " ") p)

abbrev pub parent_lines : ℕ → (ℕ → ℕ) → List ℕ
parent_lines n p = each n (λ v. parent_line v (p v))

-- "the last the number of groups"
abbrev pub groups_line : ℕ → List ℕ
groups_line groups = one (bytes "groups ") groups

-- both, of the graph with the edges e
abbrev pub tree_lines : ℕ → (ℕ → ℕ → Bool) → List ℕ
tree_lines n e = parent_lines n (parent n e) ++ groups_line (roots n (parent n e))
