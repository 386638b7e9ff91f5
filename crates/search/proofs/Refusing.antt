-- The checks before the search, one after the other: the first whose row holds is what is refused. Assumes nothing.
use mathlib.Core.Path.{◌≡◌, sym, ◌∙◌}
use mathlib.Core.Logic.{◌≢◌}
use mathlib.Core.Bool.{not}
use mathlib.Core.List.{List, [], ◌∷◌}
use Prim.Native.Nat.{ℕ, ◌*◌, ◌≤◌, ◌<◌}
use borrow.Author.Tests.{lt-ltb, le-ltb, ltb-false, eq-eqb, ne_eqb, eqb-true, not-false}
use lib.Dec.{ltb, eqb}
use lib.ListN.{length}
use Rattle.bits.proofs.Truth.{not_in, not_off}
use Rattle.std.specs.Prelude.{Ok, Err}
use Rattle.graph.specs.declared.Refusal.{Refusal}
use Rattle.graph.specs.declared.Refusal.TheVariants.{TooManyVertices, WrongLength, BudgetTooLarge, NoRoom}
use Rattle.graph.specs.Refusal.{first_of}
use Rattle.graph.specs.Check.{too_many, wrong_length, too_short, entries}
use Rattle.graph.specs.Price.{price_entries}
use Rattle.graph.proofs.Refusals.{first_of_next, first_of_here, first_of_fine, row_holds, row_passes, row_fine}
use Rattle.memory.specs.Tally.{budget}
use Rattle.search.specs.Memory.{pairs}
use Rattle.search.specs.Answer.{too_large, checks}

module _ (n : ℕ) (g ps : List ℕ) (k : ℕ) (list : List ℕ) where
  -- a length as it is to be, or not
  wrong : (xs : List ℕ) → length xs ≢ n * n → wrong_length xs (n * n) ≡ Err WrongLength
  unfolding wrong_length
  wrong xs h = row_holds WrongLength (not_in (ne_eqb (length xs) (n * n) h))

  right : (xs : List ℕ) → length xs ≡ n * n → wrong_length xs (n * n) ≡ Ok tt
  unfolding wrong_length
  right xs h = row_passes WrongLength (not_off (eq-eqb (length xs) (n * n) h))

  pub many_refused : 128 < n → Err TooManyVertices ≡ first_of (checks n g ps k list)
  unfolding checks too_many
  many_refused h = sym (first_of_here _ _ (row_holds TooManyVertices (lt-ltb 128 n h)))

  module _ (few : n ≤ 128) where
    enough : too_many n ≡ Ok tt
    unfolding too_many
    enough = row_passes TooManyVertices (le-ltb 128 n few)

    pub graph_refused : length g ≢ n * n → Err WrongLength ≡ first_of (checks n g ps k list)
    unfolding checks
    graph_refused h = sym (first_of_next _ _ enough ∙ first_of_here _ _ (wrong g h))

    module _ (square : length g ≡ n * n) where
      pub prices_refused : length ps ≢ n * n → Err WrongLength ≡ first_of (checks n g ps k list)
      unfolding checks
      prices_refused h =
          sym (first_of_next _ _ enough ∙ first_of_next _ _ (right g square) ∙ first_of_here _ _ (wrong ps h))

      module _ (long : length ps ≡ n * n) where
        sized :
            first_of (checks n g ps k list) ≡
            first_of (entries n g ∷ price_entries n ps ∷ too_large k ∷ too_short list (pairs n) ∷ [])
        unfolding checks
        sized = first_of_next _ _ enough ∙ first_of_next _ _ (right g square) ∙ first_of_next _ _ (right ps long)

        pub entries_refused : {r : Refusal} → entries n g ≡ Err r → Err r ≡ first_of (checks n g ps k list)
        entries_refused h = sym (sized ∙ first_of_here _ _ h)

        module _ (drawn : entries n g ≡ Ok tt) where
          pub priced_refused : {r : Refusal} → price_entries n ps ≡ Err r → Err r ≡ first_of (checks n g ps k list)
          priced_refused h = sym (sized ∙ first_of_next _ _ drawn ∙ first_of_here _ _ h)

          module _ (priced : price_entries n ps ≡ Ok tt) where
            filled : first_of (checks n g ps k list) ≡ first_of (too_large k ∷ too_short list (pairs n) ∷ [])
            filled = sized ∙ first_of_next _ _ drawn ∙ first_of_next _ _ priced

            pub large_refused : budget < k → Err BudgetTooLarge ≡ first_of (checks n g ps k list)
            unfolding too_large
            large_refused h = sym (filled ∙ first_of_here _ _ (row_holds BudgetTooLarge (lt-ltb budget k h)))

            module _ (within : k ≤ budget) where
              small : too_large k ≡ Ok tt
              unfolding too_large
              small = row_passes BudgetTooLarge (le-ltb budget k within)

              pub short_refused : length list < pairs n → Err NoRoom ≡ first_of (checks n g ps k list)
              unfolding too_short
              short_refused h =
                  sym
                  (filled ∙ first_of_next _ _ small ∙
                  first_of_here _ _ (row_holds NoRoom (lt-ltb (length list) (pairs n) h)))

              pub all_pass : pairs n ≤ length list → Ok tt ≡ first_of (checks n g ps k list)
              unfolding too_short first_of
              all_pass h =
                  sym
                  (filled ∙ first_of_next (too_large k) (too_short list (pairs n) ∷ []) small ∙
                  first_of_next (too_short list (pairs n)) [] (row_passes NoRoom (le-ltb (length list) (pairs n) h)))

  -- where no check finds anything, all of them passed
  pub record Passed : Type 0 where
    pub few : n ≤ 128
    pub square : length g ≡ n * n
    pub long : length ps ≡ n * n
    pub drawn : entries n g ≡ Ok tt
    pub priced : price_entries n ps ≡ Ok tt
    pub within_budget : k ≤ budget
    pub room : pairs n ≤ length list

  pub passed : first_of (checks n g ps k list) ≡ Ok tt → Passed
  unfolding checks too_many wrong_length too_large too_short
  passed h =
      let all = first_of_fine (checks n g ps k list) h in
      record {
        few = ltb-false 128 n (row_fine TooManyVertices (ltb 128 n) (all 0));
        square = eqb-true (length g) (n * n) (not-false _ (row_fine WrongLength (not (eqb (length g) (n * n))) (all 1)));
        long = eqb-true (length ps) (n * n) (not-false _ (row_fine WrongLength (not (eqb (length ps) (n * n))) (all 2)));
        drawn = all 3;
        priced = all 4;
        within_budget = ltb-false budget k (row_fine BudgetTooLarge (ltb budget k) (all 5));
        room = ltb-false (length list) (pairs n) (row_fine NoRoom (ltb (length list) (pairs n)) (all 6));
      }
