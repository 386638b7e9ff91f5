-- Any two answers of `forest`, and any two lists that it leaves, that its promise allows for one input are equal.
-- Assumes nothing.
use mathlib.Core.Path.{◌≡◌, sym, ◌∙◌}
use Prim.Native.Nat.{ℕ}
use mathlib.Core.List.{List}
use Rattle.graph.specs.Graph.{edge}
use Rattle.std.specs.Prelude.{Some, Result, Ok, Err}
use Rattle.graph.specs.declared.Refusal.{Refusal}
use Rattle.graph.specs.Refusal.{refusal}
use Rattle.graph.proofs.Leading.{fault_not_fine}
use Rattle.graph.proofs.Quads.{at_spoils}
use Rattle.forest.specs.declared.Answer.{Answer}
use Rattle.forest.specs.declared.Answer.TheVariants.{Spoiled, Forest}
use Rattle.forest.specs.Answer.{Promise, Meant}

module _ (n : ℕ) (g out : List ℕ) where
  same : (r s : Result Answer Refusal) (a b : List ℕ) → refusal r ≡ refusal s → Meant n g out r a → Meant n g out s b
      → (r ≡ s) × (a ≡ b)
  same (Err r) (Err s) a b e x y = (cc, x ∙ sym y)
  same (Err r) (Ok s) a b e x y = absurd (fault_not_fine e)
  same (Ok r) (Err s) a b e x y = absurd (fault_not_fine (sym e))
  same (Ok (Spoiled q)) (Ok (Spoiled p)) a b e x y = (let z : Some q ≡ Some p = sym x.0 ∙ y.0 in cc, x.1 ∙ sym y.1)
  same (Ok (Spoiled q)) (Ok (Forest m)) a b e x y = absurd (at_spoils n (edge n g) q x.0 y.clean)
  same (Ok (Forest k)) (Ok (Spoiled p)) a b e x y = absurd (at_spoils n (edge n g) p y.0 x.clean)
  same (Ok (Forest k)) (Ok (Forest m)) a b e x y =
      let lists : a ≡ b = x.parents ∙ sym y.parents in
      (let groups : k ≡ m = x.trees ∙ rw lists (sym y.trees) in cc, lists)

  pub forest_determined : {r s : Result Answer Refusal} {a b : List ℕ} → Promise n g out r a → Promise n g out s b
      → (r ≡ s) × (a ≡ b)
  forest_determined {r} {s} {a} {b} x y = same r s a b (x.refused ∙ sym y.refused) x.meant y.meant
