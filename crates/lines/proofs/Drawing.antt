-- The graph and the prices of scores that pass their checks: they are drawn, they pass the checks of the search, and no pair is
-- fixed. Assumes nothing.
use mathlib.Core.Path.{◌≡◌, refl, sym, ◌∙◌, ap, subst}
use mathlib.Core.List.{List, ◌++◌, append-nil}
use mathlib.Core.Bool.{true}
use Prim.Native.Nat.{ℕ, zero, suc, ◌*◌, ◌/◌, ◌%◌, ◌≤◌}
use native.Mathlib.Nat.{div-add-mod', suc-mul, mul-le-mul}
use native.Mathlib.Omega.{arith}
use lib.ListN.{length, get_or, take, drop, drop_of_length-le}
use lib.Seq.{length-take-le}
use lib.IntN.{ℤ}
use borrow.Author.Tests.{le-ltb, eq-eqb}
use Rattle.bits.proofs.Truth.{not_off}
use Rattle.std.specs.Prelude.{Ok, Err}
use Rattle.graph.specs.declared.Refusal.{Refusal}
use Rattle.graph.specs.declared.Refusal.TheVariants.{TooManyVertices, WrongLength, OffScale, NoRoom}
use Rattle.graph.specs.Refusal.{Finding, first_of}
use Rattle.graph.specs.Check.{too_many, too_short}
use Rattle.graph.specs.Graph.{edge}
use Rattle.graph.proofs.Leading.{fault_not_fine}
use Rattle.graph.proofs.Refusals.{first_of_next, first_of_single, row_passes}
use Rattle.repair.specs.Pair.{is_pair}
use Rattle.repair.specs.Repair.{toll_of}
use Rattle.scores.specs.Scale.{half, on_scale, threshold_off, scores_off, edge_byte, price_entry, square}
use Rattle.scores.specs.Drawing.{wrong_count, checks, Promise}
use Rattle.scores.proofs.Squares.{length_square}
use Rattle.scores.proofs.Passes.{graph_passes, prices_pass, prices_free}
use Rattle.lines.specs.Inner.{Checked, Ready}
use Rattle.lines.specs.Report.{Searched}
use Rattle.lines.proofs.Mending.{pair_two}

module _ (n : ℕ) (t : ℤ) (scores : List ℤ) (g ps : List ℕ) (ready : Ready n t scores g ps) where
  no_fault : first_of (checks n t scores g ps) ≡ Ok tt
  unfolding checks too_many wrong_count threshold_off too_short
  no_fault =
      first_of_next _ _ (row_passes TooManyVertices (le-ltb 128 n ready.few)) ∙
      first_of_next _ _ (row_passes WrongLength (not_off (eq-eqb (length scores) (half n) ready.counted))) ∙
      first_of_next _ _ (row_passes (OffScale 0 0) (not_off ready.scale)) ∙ first_of_next _ _ (sym ready.scored) ∙
      first_of_next _ _ (row_passes NoRoom (le-ltb (length g) (n * n) (omega (arith, ready.bytes)))) ∙ first_of_single _ ∙
      row_passes NoRoom (le-ltb (length ps) (n * n) (omega (arith, ready.costs)))

  -- the code's threshold is t read back from its bits
  module _ {u : ℤ} {r : Finding} {g' ps' : List ℕ} (same : u ≡ t) (told : Promise n u scores g ps r g' ps') where
    passes : r ≡ Ok tt
    passes = (subst (λ (x : ℤ). Promise n x scores g ps r g' ps') same told).refused ∙ no_fault

    pub not_refused : {why : Refusal} → r ≡ Err why → ⊥
    not_refused e = fault_not_fine (sym e ∙ passes)

    fine : Promise n t scores g ps (Ok tt) g' ps'
    fine =
        subst (λ (x : Finding). Promise n t scores g ps x g' ps') passes
        (subst (λ (x : ℤ). Promise n x scores g ps r g' ps') same told)

    pub graph_drawn : g' ≡ square n (edge_byte n t scores)
    graph_drawn =
        fine.meant.0 ∙
        ap (λ l. square n (edge_byte n t scores) ++ l) (drop_of_length-le g {i = n * n} (omega (arith, ready.bytes))) ∙
        append-nil (square n (edge_byte n t scores))

    pub prices_drawn : ps' ≡ square n (price_entry n t scores)
    prices_drawn =
        fine.meant.1 ∙
        ap (λ l. square n (price_entry n t scores) ++ l) (drop_of_length-le ps {i = n * n} (omega (arith, ready.costs))) ∙
        append-nil (square n (price_entry n t scores))

    loose : (x : ℕ) → is_pair n x ≡ true → (1 ≤ get_or ps' x 0) × (get_or ps' x 0 ≤ 10000)
    loose x pair =
        let two = pair_two n x pair in
        let free = prices_free n t scores g ps fine (x / n) (x % n) two.apart two.left two.right in
        subst (λ (k : ℕ). (1 ≤ get_or ps' k 0) × (get_or ps' k 0 ≤ 10000)) (div-add-mod' x n) free

    pub checked : Checked n g' ps'
    checked =
        record {
          few = ready.few;
          bytes = ap length graph_drawn ∙ length_square n (edge_byte n t scores);
          costs = ap length prices_drawn ∙ length_square n (price_entry n t scores);
          fine = graph_passes n t scores g ps fine;
          priced = prices_pass n t scores g ps fine;
          loose = loose;
        }

    pub drawn_paged :
        {now : List ℕ} → Searched n (edge n g') (toll_of ps') now →
        Searched n (edge n (square n (edge_byte n t scores))) (toll_of (square n (price_entry n t scores))) now
    drawn_paged {now} page =
        subst (λ a. Searched n (edge n a) (toll_of (square n (price_entry n t scores))) now) graph_drawn
        (subst (λ b. Searched n (edge n g') (toll_of b) now) prices_drawn page)

-- the graph and the prices of scores that pass their checks, by themselves
module _
    (n : ℕ)
    (t : ℤ)
    (scores : List ℤ)
    (few : n ≤ 128)
    (counted : length scores ≡ half n)
    (scale : on_scale t ≡ true)
    (scored : Ok tt ≡ scores_off n scores) where
  abbrev graph : List ℕ
  graph = square n (edge_byte n t scores)

  abbrev prices : List ℕ
  prices = square n (price_entry n t scores)

  nothing_behind : (f : ℕ → ℕ → ℕ) → square n f ≡ square n f ++ drop (n * n) (square n f)
  nothing_behind f =
      sym
      (ap (λ l. square n f ++ l) (drop_of_length-le (square n f) {i = n * n} (omega (arith, length_square n f))) ∙
      append-nil (square n f))

  pub squares_checked : Checked n (square n (edge_byte n t scores)) (square n (price_entry n t scores))
  squares_checked =
      let ready : Ready n t scores graph prices =
      record {
        few = few;
        counted = counted;
        scale = scale;
        scored = scored;
        bytes = length_square n (edge_byte n t scores);
        costs = length_square n (price_entry n t scores);
      }
      in
      checked n t scores graph prices ready refl
      (record {
        refused = sym (no_fault n t scores graph prices ready);
        meant = (nothing_behind (edge_byte n t scores), nothing_behind (price_entry n t scores));
      })

pub squares_few : (n : ℕ) → n ≤ 128 → (n ≤ n * n) × (n * n ≤ 16384)
squares_few zero few = (omega arith, omega arith)
squares_few (suc n) few =
    (omega (arith, suc-mul n (suc n)), mul-le-mul few few)

-- the first scores of a list, and the first entries of two larger buffers
module _ (n : ℕ) {t u : ℤ} (list : List ℤ) (same : u ≡ t) (few : n ≤ 128) (enough : half n ≤ length list) where
  pub list_ready :
      (graph prices : List ℕ) → on_scale t ≡ true → Ok tt ≡ scores_off n (take (half n) list) → length graph ≡ 16384 → length prices ≡ 16384 →
      Ready n u (take (half n) list) (take (n * n) graph) (take (n * n) prices)
  list_ready graph prices scale scored wide high =
      record {
        few = few;
        counted = length-take-le (half n) list enough;
        scale = ap on_scale same ∙ scale;
        scored = scored;
        bytes = length-take-le (n * n) graph (omega (arith, squares_few n few));
        costs = length-take-le (n * n) prices (omega (arith, squares_few n few));
      }

  pub list_paged :
      {now : List ℕ} →
      Searched n (edge n (square n (edge_byte n u (take (half n) list))))
      (toll_of (square n (price_entry n u (take (half n) list)))) now →
      Searched n (edge n (square n (edge_byte n t (take (half n) list))))
      (toll_of (square n (price_entry n t (take (half n) list)))) now
  list_paged page = rw same at page
