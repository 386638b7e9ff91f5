-- What the tally at the end means: the answer, the steps and the list that it gives are the promised ones. Assumes nothing.
use mathlib.Core.Path.{◌≡◌, refl, sym, ap, ◌∙◌, subst}
use mathlib.Core.Logic.{◌⊎◌, inl, inr}
use mathlib.Core.Bool.{Bool, false}
use mathlib.Core.List.{List, ◌++◌}
use mathlib.Core.Option.{Option, none, some}
use Prim.Native.Nat.{ℕ, ◌≤◌, ◌<◌}
use borrow.Author.Tests.{lt-ltb, le-ltb}
use lib.Dec.{ltb}
use lib.ListN.{length, drop}
use Rattle.bits.proofs.Truth.{below, pick_true, pick_false}
use Rattle.std.specs.Prelude.{Ok, Err, None}
use Rattle.graph.specs.declared.Refusal.{Refusal}
use Rattle.graph.specs.Refusal.{first_of}
use Rattle.graph.specs.Graph.{IsGraph, edge}
use Rattle.walk.specs.Best.{IsBest, limit_of}
use Rattle.repair.specs.Repair.{Repair, toll_of}
use Rattle.repair.specs.Tree.{order, walked, searched}
use Rattle.repair.proofs.Instance.{Positive}
use Rattle.repair.proofs.Promises.{keeps_best, search_over, search_whole}
use Rattle.memory.specs.declared.Tally.{Tally}
use Rattle.search.specs.declared.Answer.{Answer}
use Rattle.search.specs.declared.Answer.TheVariants.{Stopped}
use Rattle.search.specs.Memory.{Holds, Same, Follows}
use Rattle.search.specs.Answer.{checks, Answered, nodes, Promise}
use Rattle.search.specs.Ends.{answer_whole, answer_of, written_whole, written_of, Told}

-- the answer of a tally, case by case
module _ (most : ℕ) (t : Tally) (kept list : List ℕ) where
  pub told_stopped : most < t.steps → Told most t kept list (Stopped most) list
  told_stopped h =
      record {
        answer = sym (pick_true _ _ (lt-ltb most t.steps h));
        written = sym (pick_true _ _ (lt-ltb most t.steps h));
      }

  module _ (l : t.steps ≤ most) where
    on : ltb most t.steps ≡ false
    on = le-ltb most t.steps l

    pub told_whole :
        (r : Answer) (after : List ℕ) → r ≡ answer_whole t.kept t.limit t.steps → after ≡ written_whole t.kept kept list →
        Told most t kept list r after
    told_whole r after a w =
        record {
          answer = a ∙ sym (pick_false _ _ on);
          written = w ∙ sym (pick_false _ _ on);
        }

module _
    (prune : Bool) (n : ℕ) (e : ℕ → ℕ → Bool) (toll : ℕ → ℕ) (k most : ℕ) (kept list : List ℕ) (t : Tally)
    (graph : IsGraph n e)
    (positive : Positive n toll)
    (follows : Follows toll k most (searched n e toll prune k most) t kept)
  where
    -- what is kept is the best
    best : (o : Option (List ℕ)) → (walked n e toll prune k).kept ≡ o → IsBest (order toll) k (Repair n e toll) o
    best o h = subst (IsBest (order toll) k (Repair n e toll)) h (keeps_best n e toll graph positive k prune)

    meant_over : most < nodes prune n e toll k most list → Answered prune n e toll k most list (answer_of most t) (written_of most t kept list)
    meant_over over =
        let stop : most < t.steps = subst (λ o. Follows toll k most o t kept) (search_over n e toll graph positive k prune most over) follows in
        let told = told_stopped most t kept list stop in
        rw (← told.answer, ← told.written) (record { more = over; limit = refl; unchanged = refl })

    module _ (l : nodes prune n e toll k most list ≤ most) where
      same : Same toll k most (walked n e toll prune k) t kept
      same = subst (λ o. Follows toll k most o t kept) (search_whole n e toll graph positive k prune most l) follows

      -- nothing is kept, or a repair is
      meant_kept :
          (o : Option (List ℕ)) → (walked n e toll prune k).kept ≡ o →
          Answered prune n e toll k most list (answer_whole t.kept t.limit t.steps) (written_whole t.kept kept list)
      unfolding limit_of
      meant_kept none h =
          let holds : t.kept ≡ None = subst (Holds t.kept kept) h same.kept in
          rw holds (record { within = l; counted = same.steps; best = best none h; unchanged = refl })
      meant_kept (some r) h =
          let holds : Holds t.kept kept (some r) = subst (Holds t.kept kept) h same.kept in
          rw holds.0
          (record {
            within = l;
            counted = same.steps;
            repair = r;
            best = best (some r) h;
            paid = same.limit ∙ ap (limit_of (order toll) k) h;
            many = refl;
            written = ap (λ a. a ++ drop (length r) list) holds.1;
          })

      meant_whole : Answered prune n e toll k most list (answer_of most t) (written_of most t kept list)
      meant_whole =
          let told = told_whole most t kept list same.within _ _ refl refl in
          rw (← told.answer, ← told.written) (meant_kept (walked n e toll prune k).kept refl)

    pub meant :
        (r : Answer) (after : List ℕ) → Told most t kept list r after → Answered prune n e toll k most list r after
    meant r after told = rw (told.answer, told.written) (go (below most (nodes prune n e toll k most list)))
      where
        go :
            (most < nodes prune n e toll k most list) ⊎ (nodes prune n e toll k most list ≤ most) →
            Answered prune n e toll k most list (answer_of most t) (written_of most t kept list)
        go (inl h) = meant_over h
        go (inr h) = meant_whole h

-- an engine's answer over the rows of the bytes is the answer that is promised of the bytes
pub promised :
    (prune : Bool) (n : ℕ) (g ps : List ℕ) (k most : ℕ) (list : List ℕ) (e : ℕ → ℕ → Bool) (r : Answer) (after : List ℕ) →
    e ≡ edge n g → first_of (checks n g ps k list) ≡ Ok tt →
    Answered prune n e (toll_of ps) k most list r after → Promise prune n g ps k most list (Ok r) after
promised prune n g ps k most list e r after same passed is =
    record {
      refused = sym passed;
      meant = subst (λ d. Answered prune n d (toll_of ps) k most list r after) same is;
    }

-- a refusal leaves the list
pub refused :
    (prune : Bool) (n : ℕ) (g ps : List ℕ) (k most : ℕ) (list : List ℕ) (r : Refusal) →
    Err r ≡ first_of (checks n g ps k list) → Promise prune n g ps k most list (Err r) list
refused prune n g ps k most list r h = record { refused = h; meant = refl }
