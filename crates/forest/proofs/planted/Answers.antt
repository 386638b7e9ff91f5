use mathlib.Core.Path.{◌∙◌, ap}
use mathlib.Core.List.{List, ◌++◌}
use Prim.Native.Nat.{ℕ, ◌≤◌}
use lib.ListN.{length, drop}
use native.Mathlib.Omega.{arith}
use Rattle.forest.proofs.Turns.{front_roots, front_each}
use Rattle.forest.proofs.planted.Goals as goal

pub returns : goal.returns
returns c =
    let made = c.parents_of-parents in
    let few = c.args.graph.now.few in
    let fits : c.args.graph.now.n ≤ length made.result = let long = made.ensures.0 in omega arith in (
      c.roots_of.ensures ∙ front_roots c.args.graph.now.n made.result _ fits made.ensures.1,
      ap (λ (front : List ℕ). front ++ drop c.args.graph.now.n c.args.out.now)
          (c.copy_from_slice.ensures.after ∙ front_each c.args.graph.now.n made.result _ fits made.ensures.1),
    )
