-- The list that a call leaves gives each vertex its parent, so that all that is proved of the parents holds of the list:
-- it is a forest that fits. A list made for each number has that number's entry at its place. Assumes nothing.
use mathlib.Core.Path.{◌≡◌, refl, sym, ◌∙◌, ap, subst, fun_ext}
use mathlib.Core.Logic.{◌⊎◌, inl, inr}
use mathlib.Core.Bool.{Bool, true, false}
use mathlib.Core.List.{List, [], ◌∷◌, ◌++◌}
use Prim.Native.Nat.{ℕ, zero, suc, ◌<◌, ◌≤◌}
use native.Mathlib.Nat.{eq-or-lt_of_le, le_of_suc-le-suc}
use native.Mathlib.Omega.{arith}
use lib.ListN.{length, get_or, drop, length-append, get_or-append}
use lib.Seq.{get_or_at}
use lib.Dec.{ltb}
use borrow.Author.Tests.{ltb-true, ltb-false}
use Rattle.bits.proofs.Truth.{which, pick_true, pick_false}
use Rattle.graph.specs.Graph.{IsGraph, edge}
use Rattle.graph.specs.Each.{each}
use Rattle.graph.specs.Quad.{Clean}
use Rattle.forest.specs.Order.{nobody, parent}
use Rattle.forest.specs.Forest.{parent_in, Acyclic, Fits, roots}
use Rattle.forest.specs.Answer.{Grown}
use Rattle.forest.proofs.Parents.{parent_outside}
use Rattle.forest.proofs.Groups.{Bounded, parents_bounded, OneRoot, one_root}
use Rattle.forest.proofs.Fitting.{parents_acyclic, parents_fit}

module _ {A : Type 0} (f : ℕ → A) where
  pub length_each : (n : ℕ) → length (each n (λ v. f v ∷ [])) ≡ n
  unfolding each
  length_each zero = refl
  length_each (suc k) = let below : length (each k (λ v. f v ∷ [])) ≡ k = length_each k in
      length-append (each k (λ v. f v ∷ [])) (f k ∷ []) ∙ omega arith

  pub get_or_each : (n v : ℕ) (d : A) → v < n → get_or (each n (λ v. f v ∷ [])) v d ≡ f v
  unfolding each
  get_or_each zero v d low = absurd (omega arith)
  get_or_each (suc k) v d low = go (get_or_each k v d) (eq-or-lt_of_le (le_of_suc-le-suc low))
    where
      go : (v < k → get_or (each k (λ v. f v ∷ [])) v d ≡ f v) → (v ≡ k) ⊎ (v < k)
          → get_or (each k (λ v. f v ∷ []) ++ (f k ∷ [])) v d ≡ f v
      go below (inl same) = get_or_at (each k (λ v. f v ∷ [])) (f k) [] d v (length_each k ∙ sym same) ∙ ap f (sym same)
      go below (inr l) = get_or-append (each k (λ v. f v ∷ [])) (f k ∷ []) d v (omega (arith, length_each k)) ∙ below l

-- a list made of the parents of the vertices gives these parents, whatever stands behind
pub parent_in_each : (n : ℕ) (p : ℕ → ℕ) (rest : List ℕ) → ((v : ℕ) → n ≤ v → p v ≡ nobody)
    → parent_in n (each n (λ v. p v ∷ []) ++ rest) ≡ p
unfolding parent_in
parent_in_each n p rest outside = fun_ext (λ v. go v (which (ltb v n)))
  where
    go : (v : ℕ) → (ltb v n ≡ true) ⊎ (ltb v n ≡ false) → parent_in n (each n (λ v. p v ∷ []) ++ rest) v ≡ p v
    go v (inl low) = pick_true _ _ low ∙ get_or-append (each n (λ v. p v ∷ [])) rest nobody v
        (omega (arith, length_each p n, ltb-true v n low)) ∙ get_or_each p n v nobody (ltb-true v n low)
    go v (inr high) = pick_false _ _ high ∙ sym (outside v (ltb-false v n high))

module _ (n : ℕ) (e : ℕ → ℕ → Bool) (graph : IsGraph n e) (room : n ≤ nobody) where
  pub parent_in_parents : (rest : List ℕ) → parent_in n (each n (λ v. parent n e v ∷ []) ++ rest) ≡ parent n e
  parent_in_parents rest = parent_in_each n (parent n e) rest (parent_outside n e graph room)

-- what `forest` is to leave for a clean graph
pub grown : (n : ℕ) (g out : List ℕ) → IsGraph n (edge n g) → n ≤ nobody → Clean n (edge n g)
    → Grown n g out (roots n (parent n (edge n g))) (each n (λ v. parent n (edge n g) v ∷ []) ++ drop n out)
grown n g out graph room clean =
    let same = parent_in_parents n (edge n g) graph room (drop n out) in
    record {
      clean = clean;
      parents = refl;
      acyclic = subst (Acyclic n) (sym same) (parents_acyclic graph room);
      fits = subst (Fits n (edge n g)) (sym same) (parents_fit graph room clean);
      trees = ap (roots n) (sym same);
    }

-- and its groups are the trees: each vertex is in the tree of exactly one root
pub grown_root : {n : ℕ} {g out : List ℕ} {groups : ℕ} {after : List ℕ} → IsGraph n (edge n g) → n ≤ nobody
    → Grown n g out groups after → (v : ℕ) → v < n → OneRoot n (parent_in n after) v
grown_root {n} {g} {out} {after = after} graph room done =
    one_root (subst (Bounded n) (sym same) (parents_bounded graph room)) room done.acyclic
  where
    same : parent_in n after ≡ parent n (edge n g)
    same = ap (parent_in n) done.parents ∙ parent_in_parents n (edge n g) graph room (drop n out)
