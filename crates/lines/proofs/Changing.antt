-- The line of a changed pair in each case. Assumes nothing.
use mathlib.Core.Path.{◌≡◌, sym, ◌∙◌, ap}
use mathlib.Core.Logic.{◌≢◌}
use mathlib.Core.List.{List}
use Prim.Native.Nat.{ℕ, ◌+◌, ◌*◌, ◌/◌, ◌%◌, ◌<◌}
use native.Mathlib.Nat.{div-add-mod'}
use lib.ListN.{get_or}
use Rattle.bits.proofs.Truth.{fails, pick_true, pick_false}
use Rattle.graph.specs.Graph.{edge}
use Rattle.graph.proofs.Reading.{edge_value, value_edge}
use Rattle.scores.proofs.Squares.{row_column}
use Rattle.lines.specs.Text.{bytes}
use Rattle.lines.specs.Lines.{two, change_line}

-- the pair's own entry tells whether it is an edge
module _ (n : ℕ) (g : List ℕ) (x : ℕ) (inside : x < n * n) where
  own : get_or g (x / n * n + x % n) 0 ≡ get_or g x 0
  own = ap (λ (k : ℕ). get_or g k 0) (div-add-mod' x n)

  pub change_cut : get_or g x 0 ≡ 1 → two (bytes "cut ") (x / n) (bytes " ") (x % n) ≡ change_line n (edge n g) x
  unfolding change_line
  change_cut h =
      let at = row_column n x inside in
      sym (pick_true _ _ (value_edge n g (x / n) (x % n) at.0 at.1 (own ∙ h)))

  pub change_join : get_or g x 0 ≢ 1 → two (bytes "join ") (x / n) (bytes " ") (x % n) ≡ change_line n (edge n g) x
  unfolding change_line
  change_join h =
      sym (pick_false _ _ (fails (λ t. h (sym own ∙ (edge_value n g (x / n) (x % n) t).2))))
