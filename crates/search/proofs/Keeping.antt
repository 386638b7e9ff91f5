-- The repair that is kept: the test on the lists and prices is the tree's, and what is stored is what the tree keeps.
-- Assumes nothing.
use mathlib.Core.Path.{◌≡◌, refl, ap, ap₂, ◌∙◌}
use mathlib.Core.Logic.{◌⊎◌, inl, inr}
use mathlib.Core.Bool.{true, false, ◌&&◌, ◌||◌}
use mathlib.Core.List.{List, ◌++◌}
use mathlib.Core.Option.{Option, none, some}
use Prim.Native.Nat.{ℕ}
use Rattle.std.specs.Prelude.{None}
use lib.Dec.{ltb, eqb}
use lib.ListN.{length, take, drop}
use lib.Seq.{take-append_seam}
use Rattle.bits.specs.Choice.{pick}
use Rattle.bits.proofs.Truth.{which, pick_true, pick_false}
use Rattle.walk.specs.Best.{keep_better, limit_of}
use Rattle.repair.specs.Better.{smaller, price, better}
use Rattle.repair.specs.Tree.{order}
use Rattle.memory.specs.declared.Tally.{Tally}
use Rattle.memory.specs.Tally.{improves, Kept}
use Rattle.search.specs.Memory.{Holds}

-- the limit and the list of the tally r are those of what is kept
pub record Stored (toll : ℕ → ℕ) (k : ℕ) (o : Option (List ℕ)) (r : Tally) (after : List ℕ) : Type 0 where
  pub limit : r.limit ≡ limit_of (order toll) k o
  pub kept : Holds r.kept after o

module _ (toll : ℕ → ℕ) (k : ℕ) (trail list : List ℕ) (spent : ℕ) (t : Tally) (cost : spent ≡ price toll trail) where
  -- with nothing kept every repair is
  improves_none : t.kept ≡ None → improves trail list spent t ≡ true
  improves_none h = rw h refl

  -- else it is the order's test
  improves_better :
      (b : List ℕ) → t.limit ≡ price toll b → Holds t.kept list (some b) →
      improves trail list spent t ≡ better toll trail b
  unfolding better smaller
  improves_better b limit holds =
      rw holds.0
      (ap₂ (λ x y. ltb x y || (eqb x y && smaller trail (take (length b) list))) cost limit ∙
      ap (λ l. ltb (price toll trail) (price toll b) || (eqb (price toll trail) (price toll b) && smaller trail l)) holds.1)

  module _ (after : List ℕ) (r : Tally) (done : Kept trail list after spent t r) where
    stored_new : improves trail list spent t ≡ true → Stored toll k (some trail) r after
    unfolding limit_of
    stored_new h =
        let whole : after ≡ trail ++ drop (length trail) list = done.new_list ∙ pick_true _ _ h in
        record {
          limit = done.new_limit ∙ pick_true _ _ h ∙ cost;
          kept = (
            done.new_kept ∙ pick_true _ _ h,
            ap (take (length trail)) whole ∙ take-append_seam trail (drop (length trail) list),
          );
        }

    stored_old :
        (b : List ℕ) → improves trail list spent t ≡ false → t.limit ≡ price toll b → Holds t.kept list (some b) →
        Stored toll k (some b) r after
    unfolding limit_of
    stored_old b h limit holds =
        record {
          limit = done.new_limit ∙ pick_false _ _ h ∙ limit;
          kept = (
            done.new_kept ∙ pick_false _ _ h ∙ holds.0,
            ap (take (length b)) (done.new_list ∙ pick_false _ _ h) ∙ holds.1,
          );
        }

    pub stored :
        (o : Option (List ℕ)) → t.limit ≡ limit_of (order toll) k o → Holds t.kept list o →
        Stored toll k (keep_better (order toll) o trail) r after
    unfolding keep_better limit_of
    stored none limit holds = stored_new (improves_none holds)
    stored (some b) limit holds = go (which (better toll trail b))
      where
        is : improves trail list spent t ≡ better toll trail b
        is = improves_better b limit holds

        go :
            (better toll trail b ≡ true) ⊎ (better toll trail b ≡ false) →
            Stored toll k (pick (better toll trail b) (some trail) (some b)) r after
        go (inl h) = rw h (stored_new (is ∙ h))
        go (inr h) = rw h (stored_old b (is ∙ h) limit holds)
