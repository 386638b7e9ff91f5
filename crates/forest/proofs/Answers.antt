-- Each way out of `forest` keeps its promise: which check decided, and what the answer then means. Assumes nothing.
use mathlib.Core.Path.{◌≡◌, refl, sym, ◌∙◌, ap}
use mathlib.Core.Bool.{Bool}
use mathlib.Core.List.{List, [], ◌∷◌, ◌++◌}
use Prim.Native.Nat.{ℕ, ◌*◌, ◌<◌, ◌≤◌}
use native.Mathlib.Omega.{arith}
use lib.ListN.{length, drop}
use borrow.Author.Tests.{lt-ltb, le-ltb, eq-eqb, ne_eqb}
use Rattle.bits.proofs.Truth.{not_in, not_off}
use Rattle.std.specs.Prelude.{None, Ok, Err}
use Rattle.graph.specs.declared.Refusal.{Refusal}
use Rattle.graph.specs.declared.Refusal.TheVariants.{TooManyVertices, WrongLength, NoRoom}
use Rattle.graph.specs.Each.{each}
use Rattle.graph.specs.Graph.{IsGraph, edge}
use Rattle.graph.specs.Quad.{quads, first}
use Rattle.graph.specs.Check.{too_many, wrong_length, too_short, entries}
use Rattle.graph.specs.Refusal.{first_of}
use Rattle.graph.proofs.Refusals.{first_of_here, first_of_next, first_of_single, row_holds, row_passes}
use Rattle.graph.proofs.Quads.{clear_clean}
use Rattle.forest.specs.declared.Answer.{Answer}
use Rattle.forest.specs.declared.Answer.TheVariants.{Forest}
use Rattle.forest.specs.Order.{parent}
use Rattle.forest.specs.Forest.{roots}
use Rattle.forest.specs.Answer.{Promise, Meant, checks}
use Rattle.forest.proofs.Listed.{grown}

module _ (n : ℕ) (g out : List ℕ) where
  refused : {r : Refusal} → first_of (checks n g out) ≡ Err r → Promise n g out (Err r) out
  refused found = record { refused = sym found; meant = refl }

  pub refused_size : 128 < n → Promise n g out (Err TooManyVertices) out
  unfolding checks too_many
  refused_size h = refused (first_of_here _ _ (row_holds TooManyVertices (lt-ltb 128 n h)))

  module _ (small : n ≤ 128) where
    size_fine : too_many n ≡ Ok tt
    unfolding too_many
    size_fine = row_passes TooManyVertices (le-ltb 128 n small)

    pub refused_length : (length g ≡ n * n → ⊥) → Promise n g out (Err WrongLength) out
    unfolding checks wrong_length
    refused_length h =
        refused (first_of_next _ _ size_fine ∙ first_of_here _ _ (row_holds WrongLength (not_in (ne_eqb (length g) (n * n) h))))

    module _ (long : length g ≡ n * n) where
      length_fine : wrong_length g (n * n) ≡ Ok tt
      unfolding wrong_length
      length_fine = row_passes WrongLength (not_off (eq-eqb (length g) (n * n) long))

      pub refused_entry : {r : Refusal} → entries n g ≡ Err r → Promise n g out (Err r) out
      unfolding checks
      refused_entry h = refused (first_of_next _ _ size_fine ∙ first_of_next _ _ length_fine ∙ first_of_here _ _ h)

      module _ (fine : entries n g ≡ Ok tt) where
        last_check : first_of (checks n g out) ≡ too_short out n
        unfolding checks
        last_check =
            first_of_next _ _ size_fine ∙ first_of_next _ _ length_fine ∙ first_of_next _ _ fine ∙ first_of_single (too_short out n)

        pub refused_room : length out < n → Promise n g out (Err NoRoom) out
        unfolding too_short
        refused_room h = refused (last_check ∙ row_holds NoRoom (lt-ltb (length out) n h))

        pub answered : n ≤ length out → {r : Answer} {after : List ℕ} → Meant n g out (Ok r) after → Promise n g out (Ok r) after
        unfolding too_short
        answered room told =
            record { refused = sym (last_check ∙ row_passes NoRoom (le-ltb (length out) n room)); meant = told }

  -- by words that read as the bytes do
  module _ {e : ℕ → ℕ → Bool} (same : e ≡ edge n g) where
    pub cleared : IsGraph n (edge n g) → n ≤ 128 → None ≡ first (quads n e) → {groups : ℕ} {after : List ℕ}
        → groups ≡ roots n (parent n e) → after ≡ each n (λ v. parent n e v ∷ []) ++ drop n out
        → Meant n g out (Ok (Forest groups)) after
    cleared graph small told trees list =
        let clean = clear_clean n (edge n g) graph (ap (λ (d : ℕ → ℕ → Bool). first (quads n d)) (sym same) ∙ sym told) in
        rw (trees, list, same) (grown n g out graph (omega arith) clean)
