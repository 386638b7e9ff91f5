-- The loop over the ways of a node: what holds after w of them, and what is left when the marks are gone. Assumes nothing.
use mathlib.Core.Path.{◌≡◌, refl, ◌∙◌}
use mathlib.Core.Bool.{Bool, true}
use mathlib.Core.List.{List}
use mathlib.Core.Option.{Option}
use Prim.Native.Nat.{ℕ, ◌+◌, ◌≤◌, ◌<◌}
use native.Mathlib.Omega.{arith}
use lib.ListN.{length, get_or}
use Rattle.graph.specs.Price.{fixed}
use Rattle.walk.specs.Problem as problem
use Rattle.repair.specs.Pair.{member}
use Rattle.repair.specs.Tree.{Node}
use Rattle.memory.specs.declared.Tally.{Tally}
use Rattle.memory.specs.Table.{Apart}
use Rattle.search.specs.Memory.{open_pairs}
use Rattle.search.specs.Memory.{At, Same}
use Rattle.search.specs.Steps.{left, Ready, Six, WayLeft, WaysLeft}
use Rattle.memory.proofs.Marking.{entry_member, apart_same, apart_set}
use Rattle.search.proofs.Safety.{safe_lists, safe_mark, open_less}
use Rattle.search.proofs.AtWays.{Reached, reached_none, reached_more, reached_all}

-- after w ways: memory that is ready, as at the start but for the marks, and the run as far as it has come
pub record Trying
    (n : ℕ) (prune : Bool) (most : ℕ) (words₀ cost₀ path₀ kept₀ : List ℕ) (spent : ℕ) (places : List ℕ) (t₀ : Tally)
    (words cost path kept : List ℕ) (t : Tally) (w : ℕ)
    : Type 0 where
  pub some : w ≤ 6
  pub ready : Ready n most words cost path kept spent t
  pub same_words : words ≡ words₀
  pub same_path : path ≡ path₀
  pub apart : Apart places cost₀ cost
  pub fewer : open_pairs n cost ≤ open_pairs n cost₀
  pub reached :
      (e : ℕ → ℕ → Bool) (toll : ℕ → ℕ) (k f : ℕ) (s : Node) (o : problem.Tally (Option (List ℕ))) →
      At n e toll s words₀ cost₀ path₀ spent → left n toll s ≤ f → Same toll k most o t₀ kept₀ →
      Reached n e toll prune k most f s o words cost path kept spent places t w

module _
    {n most : ℕ} {prune : Bool} {words₀ cost₀ path₀ kept₀ : List ℕ} {spent : ℕ} {places : List ℕ} {t₀ : Tally}
    (ready₀ : Ready n most words₀ cost₀ path₀ kept₀ spent t₀)
    (six : Six n places)
  where
    pub trying_none :
        Trying n prune most words₀ cost₀ path₀ kept₀ spent places t₀ words₀ cost₀ path₀ kept₀ t₀ 0
    trying_none =
        record {
          some = omega arith;
          ready = ready₀;
          same_words = refl;
          same_path = refl;
          apart = apart_same places cost₀;
          fewer = omega arith;
          reached = λ e toll k f s o at fuel same.
              reached_none n e toll prune k most f s o words₀ cost₀ path₀ kept₀ spent places t₀ at fuel same;
        }

    module _
        {words cost path kept : List ℕ} {t : Tally} {w : ℕ}
        (so : Trying n prune most words₀ cost₀ path₀ kept₀ spent places t₀ words cost path kept t w)
      where
        pub trying_more :
            (words' cost' path' kept' : List ℕ) (r : Tally) → w < 6 → length kept' ≡ length kept →
            WayLeft n prune most words cost path kept spent (get_or places w 0) t r words' cost' path' kept' →
            Trying n prune most words₀ cost₀ path₀ kept₀ spent places t₀ words' cost' path' kept' r (w + 1)
        trying_more words' cost' path' kept' r more lk did =
            record {
              some = omega arith;
              ready =
                  rw (did.back.words_back, did.back.cost_back, did.back.path_back)
                  (record {
                    safe = safe_lists (safe_mark so.ready.safe p fits) kept' lk;
                    sound = did.sound;
                    large = so.ready.large;
                  });
              same_words = did.back.words_back ∙ so.same_words;
              same_path = did.back.path_back ∙ so.same_path;
              apart = rw did.back.cost_back (apart_set places cost₀ cost p fixed listed so.apart);
              fewer =
                  rw did.back.cost_back (omega (arith, so.fewer, open_less n cost p so.ready.safe.table fits));
              reached = λ e toll k f s o at fuel same.
                  reached_more n e toll prune k most f s o words cost path kept spent places t w words' cost' path' kept' r
                  so.ready.safe.few (six.each w more).1 (omega (arith, so.ready.safe.table, (six.each w more).0)) (omega (arith, six.many))
                  did.back did.tried_out (so.reached e toll k f s o at fuel same);
            }
          where
            p : ℕ
            p = get_or places w 0

            fits : p < 16384
            fits = (six.each w more).0

            listed : member p places ≡ true
            listed = entry_member places w (omega (arith, six.many))

        pub trying_end :
            (cost' : List ℕ) → 6 ≤ w → cost' ≡ cost₀ →
            WaysLeft n prune most words₀ cost₀ path₀ kept₀ spent places t₀ t words cost' path kept
        trying_end cost' all back =
            record {
              back = record { words_back = so.same_words; cost_back = back; path_back = so.same_path };
              sound = so.ready.sound;
              branched = λ e toll k f s o at fuel same.
                  reached_all n e toll prune k most f s o words cost path kept spent places t w
                  (omega (arith, six.many)) (so.reached e toll k f s o at fuel same);
            }
