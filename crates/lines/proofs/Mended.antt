-- The bytes with the listed pairs toggled are the repaired graph's, and pass the checks. Assumes nothing.
use mathlib.Core.Path.{◌≡◌, ◌∙◌, ap}
use mathlib.Core.Bool.{Bool}
use mathlib.Core.List.{List}
use Prim.Native.Nat.{ℕ, ◌*◌}
use lib.ListN.{length}
use Rattle.std.specs.Prelude.{Ok}
use Rattle.graph.specs.Graph.{IsGraph, edge}
use Rattle.graph.specs.Check.{entries}
use Rattle.repair.specs.Repair.{toggled}
use Rattle.repair.proofs.Toggling.{toggled_graph}
use Rattle.lines.specs.Inner.{drawn_of}
use Rattle.lines.proofs.Drawn.{drawn_long, drawn_edge, drawn_fine}

module _ (n : ℕ) (e : ℕ → ℕ → Bool) (repair : List ℕ) (graph : IsGraph n e) {after : List ℕ} (mended : after ≡ drawn_of n (toggled n e repair)) where
  pub same_edges : edge n after ≡ toggled n e repair
  same_edges = ap (edge n) mended ∙ drawn_edge n (toggled n e repair) (toggled_graph n e graph repair)

  pub mended_long : length after ≡ n * n
  mended_long = ap length mended ∙ drawn_long n (toggled n e repair)

  pub mended_fine : entries n after ≡ Ok tt
  mended_fine = ap (entries n) mended ∙ drawn_fine n (toggled n e repair) (toggled_graph n e graph repair)
