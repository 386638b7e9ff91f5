-- The forest of a clean graph that passes its checks: `forest` answers with it, and its list gives each vertex its parent.
-- Assumes nothing.
use mathlib.Core.Path.{◌≡◌, refl, ◌∙◌, ap, ap₂}
use mathlib.Core.List.{List, [], ◌∷◌, ◌++◌}
use Prim.Native.Nat.{ℕ, zero, suc, ◌*◌, ◌≤◌, ◌<◌}
use native.Mathlib.Omega.{arith}
use lib.ListN.{length, get_or, take, drop, get_or-append}
use lib.Seq.{length-take-le, get_or-take}
use borrow.Author.Tests.{le-ltb, eq-eqb}
use Rattle.bits.proofs.Truth.{not_off}
use Rattle.std.specs.Prelude.{Result, Ok, Err}
use Rattle.graph.specs.declared.Refusal.{Refusal}
use Rattle.graph.specs.declared.Refusal.TheVariants.{TooManyVertices, WrongLength, NoRoom}
use Rattle.graph.specs.Each.{each}
use Rattle.graph.specs.Refusal.{first_of}
use Rattle.graph.specs.Check.{too_many, wrong_length, entries, too_short}
use Rattle.graph.specs.Graph.{edge}
use Rattle.graph.specs.Quad.{Clean}
use Rattle.graph.proofs.Leading.{fault_not_fine}
use Rattle.graph.proofs.Quads.{at_spoils}
use Rattle.graph.proofs.Reading.{entries_graph}
use Rattle.graph.proofs.Refusals.{first_of_next, first_of_single, row_passes}
use Rattle.forest.specs.declared.Answer.{Answer}
use Rattle.forest.specs.declared.Answer.TheVariants.{Spoiled, Forest}
use Rattle.forest.specs.Answer.{Promise, Grown, checks}
use Rattle.forest.specs.Order.{parent}
use Rattle.forest.specs.Forest.{parent_in, roots}
use Rattle.forest.proofs.Listed.{length_each, get_or_each, parent_in_parents}
use Rattle.lines.specs.Lines.{parent_line, parent_lines}

-- pieces that are alike make the same list
pub each_alike : {f g : ℕ → List ℕ} (n : ℕ) → ((k : ℕ) → k < n → f k ≡ g k) → each n f ≡ each n g
unfolding each
each_alike zero h = refl
each_alike (suc n) h = ap₂ ◌++◌ (each_alike n (λ k l. h k (omega arith))) (h n (omega arith))

-- the list's first n entries alone
pub firsts_told :
    (n : ℕ) (list : List ℕ) → n ≤ length list →
    each (length (take n list)) (λ v. parent_line v (get_or (take n list) v 0)) ≡ each n (λ v. parent_line v (get_or list v 0))
firsts_told n list room =
    ap (λ (m : ℕ). each m (λ v. parent_line v (get_or (take n list) v 0))) (length-take-le n list room) ∙
    each_alike n (λ v h. ap (parent_line v) (get_or-take n list v 0 h))

module _ (n : ℕ) (g out : List ℕ) (few : n ≤ 128) (long : length g ≡ n * n) (fine : entries n g ≡ Ok tt) where
  no_fault : n ≤ length out → first_of (checks n g out) ≡ Ok tt
  unfolding checks too_many wrong_length too_short
  no_fault room =
      first_of_next _ _ (row_passes TooManyVertices (le-ltb 128 n few)) ∙
      first_of_next _ _ (row_passes WrongLength (not_off (eq-eqb (length g) (n * n) long))) ∙ first_of_next _ _ fine ∙
      first_of_single _ ∙ row_passes NoRoom (le-ltb (length out) n room)

  module _ (room : n ≤ length out) (clean : Clean n (edge n g)) where
    -- no other answer
    pub is_forest : (r : Result Answer Refusal) {after : List ℕ} → Promise n g out r after → (groups : ℕ) × (r ≡ Ok (Forest groups))
    is_forest (Err r) p = absurd (fault_not_fine (p.refused ∙ no_fault room))
    is_forest (Ok (Spoiled q)) p = absurd (at_spoils n (edge n g) q p.meant.0 clean)
    is_forest (Ok (Forest groups)) p = (groups, refl)

  module _ {groups : ℕ} {after : List ℕ} (grown : Grown n g out groups after) where
    -- the list's first n entries are the parents
    pub parents_told :
        each n (λ v. parent_line v (get_or after v 0)) ≡ parent_lines n (parent n (edge n g))
    parents_told = each_alike n (λ v h. ap (parent_line v) (at v h))
      where
        at : (v : ℕ) → v < n → get_or after v 0 ≡ parent n (edge n g) v
        at v h =
            ap (λ l. get_or l v 0) grown.parents ∙
            get_or-append (each n (λ v. parent n (edge n g) v ∷ [])) (drop n out) 0 v
            (omega (arith, length_each (parent n (edge n g)) n)) ∙
            get_or_each (parent n (edge n g)) n v 0 h

    pub groups_told : groups ≡ roots n (parent n (edge n g))
    groups_told =
        grown.trees ∙
        ap (roots n)
        (ap (parent_in n) grown.parents ∙
        parent_in_parents n (edge n g) (entries_graph n g fine) (omega arith) (drop n out))
