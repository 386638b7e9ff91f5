-- The answers of `to_graph`, one lemma for each return. Assumes nothing.
use mathlib.Core.Path.{◌≡◌, refl, sym, ◌∙◌, ap}
use mathlib.Core.Bool.{true, not}
use mathlib.Core.List.{List, [], ◌∷◌, ◌++◌}
use Prim.Native.Nat.{ℕ, ◌*◌, ◌≤◌, ◌<◌}
use lib.ListN.{length}
use lib.Seq.{paste}
use lib.IntN.{ℤ}
use lib.Dec.{ltb, eqb}
use borrow.Author.Tests.{lt-ltb, le-ltb, ltb-false, eqb-true, not-false}
use Rattle.std.specs.Prelude.{Ok, Err}
use Rattle.graph.specs.declared.Refusal.{Refusal}
use Rattle.graph.specs.declared.Refusal.TheVariants.{TooManyVertices, WrongLength, OffScale, NoRoom}
use Rattle.graph.specs.Refusal.{Finding, first_of}
use Rattle.graph.specs.Check.{too_many, too_short}
use Rattle.scores.specs.Scale.{on_scale, half, threshold_off, scores_off, edge_byte, price_entry, square}
use Rattle.scores.specs.Drawing.{wrong_count, checks, Promise}
use Rattle.scores.proofs.Checking.{hit, pass, done, fine_out, fine_first, decided, left_over}
use Rattle.scores.proofs.Squares.{length_square}
use Rattle.scores.proofs.Pasting.{pasted}

-- n and the number of the scores are right where their checks find nothing
pub counted : (n : ℕ) (scores : List ℤ) → Ok tt ≡ first_of (too_many n ∷ wrong_count scores n ∷ []) → (n ≤ 128) × (length scores ≡ half n)
unfolding too_many wrong_count
counted n scores e =
    let a = fine_out TooManyVertices (ltb 128 n) (wrong_count scores n ∷ []) e in
    let b = fine_out WrongLength _ [] a.1 in
    (ltb-false 128 n a.0, eqb-true (length scores) (half n) (not-false (eqb (length scores) (half n)) b.0))

module _ (n : ℕ) (t : ℤ) (scores : List ℤ) (graph prices : List ℕ) where
  abbrev counts : List Finding
  counts = too_many n ∷ wrong_count scores n ∷ []

  abbrev offs : List Finding
  offs = threshold_off t ∷ scores_off n scores ∷ []

  abbrev rooms : List Finding
  rooms = too_short graph (n * n) ∷ too_short prices (n * n) ∷ []

  all_checks : checks n t scores graph prices ≡ counts ++ (offs ++ rooms)
  unfolding checks
  all_checks = refl

  -- where no check finds anything, n, the scores and the threshold are right
  pub promised :
      Ok tt ≡ first_of (checks n t scores graph prices) →
      (n ≤ 128) × (length scores ≡ half n) × (on_scale t ≡ true) × (Ok tt ≡ scores_off n scores)
  unfolding checks too_many wrong_count threshold_off
  promised e =
      let a = fine_out TooManyVertices (ltb 128 n) (wrong_count scores n ∷ (offs ++ rooms)) e in
      let b = fine_out WrongLength (not (eqb (length scores) (half n))) (offs ++ rooms) a.1 in
      let d = fine_out (OffScale 0 0) (not (on_scale t)) (scores_off n scores ∷ rooms) b.1 in
      let s = fine_first (scores_off n scores) rooms d.1 in
      let ok = counted n scores (done ∙ pass WrongLength [] b.0 ∙ pass TooManyVertices (wrong_count scores n ∷ []) a.0) in
      (ok.0, ok.1, not-false (on_scale t) d.0, s.0)

  refuse : {r : Refusal} → Err r ≡ first_of (counts ++ (offs ++ rooms)) → Promise n t scores graph prices (Err r) graph prices
  refuse e = record { refused = e ∙ sym (ap first_of all_checks); meant = (refl, refl) }

  pub count_refused : {r : Refusal} → Err r ≡ first_of counts → Promise n t scores graph prices (Err r) graph prices
  count_refused e = refuse (decided counts (offs ++ rooms) refl e)

  module _ (right : Ok tt ≡ first_of counts) where
    pub scale_refused : {r : Refusal} → Err r ≡ first_of offs → Promise n t scores graph prices (Err r) graph prices
    scale_refused e = refuse (decided offs rooms refl e ∙ left_over counts (offs ++ rooms) right)

    module _ (on : Ok tt ≡ first_of offs) where
      rest : first_of rooms ≡ first_of (counts ++ (offs ++ rooms))
      rest = left_over offs rooms on ∙ left_over counts (offs ++ rooms) right

      pub graph_short : length graph < n * n → Promise n t scores graph prices (Err NoRoom) graph prices
      unfolding too_short
      graph_short h = refuse (hit NoRoom (too_short prices (n * n) ∷ []) (lt-ltb _ _ h) ∙ rest)

      pub prices_short : n * n ≤ length graph → length prices < n * n → Promise n t scores graph prices (Err NoRoom) graph prices
      unfolding too_short
      prices_short k h =
          refuse (hit NoRoom [] (lt-ltb _ _ h) ∙ pass NoRoom (too_short prices (n * n) ∷ []) (le-ltb _ _ k) ∙ rest)

      pub drawn :
          n * n ≤ length graph → n * n ≤ length prices → {graph' prices' : List ℕ} →
          graph' ≡ paste graph 0 (square n (edge_byte n t scores)) (n * n) →
          prices' ≡ paste prices 0 (square n (price_entry n t scores)) (n * n) → Promise n t scores graph prices (Ok tt) graph' prices'
      unfolding too_short
      drawn k h g p = record {
        refused =
            done ∙ pass NoRoom [] (le-ltb _ _ h) ∙ pass NoRoom (too_short prices (n * n) ∷ []) (le-ltb _ _ k) ∙ rest
            ∙ sym (ap first_of all_checks);
        meant = (
          g ∙ pasted graph (square n (edge_byte n t scores)) (n * n) (length_square n (edge_byte n t scores)),
          p ∙ pasted prices (square n (price_entry n t scores)) (n * n) (length_square n (price_entry n t scores)),
        );
      }
