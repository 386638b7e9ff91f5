-- The sheet's answer taken apart: what the reader refuses is what the report refuses, and else its n, t and scores give the
-- graph and the prices. Assumes nothing.
use mathlib.Core.Path.{◌≡◌, refl, sym, ◌∙◌, ap, subst}
use mathlib.Core.Bool.{true}
use mathlib.Core.List.{List}
use Prim.Native.Nat.{ℕ, ◌≤◌, ◌<◌}
use native.Mathlib.Omega.{arith}
use lib.ListN.{length, take, drop}
use lib.Seq.{take_at}
use lib.IntN.{ℤ}
use borrow.Author.Tests.{lt-ltb, le-ltb}
use Rattle.std.specs.Prelude.{Result, Ok, Err}
use Rattle.graph.specs.declared.Refusal.{Refusal}
use Rattle.graph.specs.declared.Refusal.TheVariants.{NoRoom, BadSheet}
use Rattle.graph.specs.Graph.{edge}
use Rattle.graph.specs.Refusal.{Finding, number, row_at, column_at, first_of, refusal, number_of, row_of, column_of}
use Rattle.graph.proofs.Refusals.{first_of_next, first_of_here, first_of_single, row_holds, row_passes}
use Rattle.repair.specs.Repair.{toll_of}
use Rattle.scores.specs.declared.Trailer.{Trailer}
use Rattle.scores.specs.Scale.{half, on_scale, scores_off, edge_byte, price_entry, square}
use Rattle.scores.specs.Sheet.{size_of, notes_of, score_at, scores_of}
use Rattle.scores.specs.Reader.{sheet_fault, no_room, checks, Filled, Promise}
use Rattle.scores.proofs.Squares.{length_each}
use Rattle.scores.proofs.Sheets.{sound}
use Rattle.lines.specs.Lines.{refusal_line}
use Rattle.lines.specs.Report.{Searched, Said, Lines, fault, graph_of, prices_of}
use Rattle.lines.proofs.Searching.{pairs_few}

module _ (sheet : List ℕ) where
  -- what is said of a finding is said of the sheet
  lines : (now : List ℕ) {x : Finding} → fault sheet ≡ x → Said sheet x now → Lines sheet now
  lines now e said = subst (λ x. Said sheet x now) (sym e) said

  -- "Input above 49,032 bytes gets 11."
  pub long_paged : {now : List ℕ} → 49032 < length sheet → now ≡ refusal_line 11 0 0 → Lines sheet now
  unfolding fault
  long_paged {now} h put = lines now (first_of_here _ _ (row_holds BadSheet (lt-ltb 49032 (length sheet) h))) put

  module _ (short : length sheet ≤ 49032) where
    read_fault : fault sheet ≡ sheet_fault sheet
    unfolding fault
    read_fault = first_of_next _ _ (row_passes BadSheet (le-ltb 49032 (length sheet) short)) ∙ first_of_single (sheet_fault sheet)

    module _ (out : List ℤ) (room : length out ≡ 8128) where
      -- there is room for the scores, so that the reader refuses what the sheet's checks find
      wide : (x : Finding) → sheet_fault sheet ≡ x → first_of (checks sheet out) ≡ x
      unfolding checks no_room
      wide (Err r) e = first_of_here _ _ e
      wide (Ok done) e =
          let few = (sound sheet (sym e)).0.few in
          first_of_next _ _ e ∙ first_of_single _ ∙
          row_passes NoRoom (le-ltb (length out) (half (size_of sheet)) (omega (arith, pairs_few (size_of sheet) few)))

      module _ {r : Result Trailer Refusal} {after : List ℤ} (told : Promise sheet out r after) where
        same_fault : fault sheet ≡ refusal r
        same_fault = read_fault ∙ sym (wide (sheet_fault sheet) refl) ∙ sym told.refused

        -- "any refusal prints one line"
        pub refusal_paged :
            {now : List ℕ} {why : Refusal} → r ≡ Err why →
            now ≡ refusal_line (number why) (row_at why) (column_at why) → Lines sheet now
        refusal_paged {now} e put = lines now (same_fault ∙ ap refusal e) put

        pub refused_paged :
            {now : List ℕ} {why : Refusal} → r ≡ Err why →
            now ≡ refusal_line (number_of (refusal r)) (row_of (refusal r)) (column_of (refusal r)) → Lines sheet now
        refused_paged {now} e put =
            refusal_paged e
            (put ∙ ap (λ (x : Result Trailer Refusal). refusal_line (number_of (refusal x)) (row_of (refusal x)) (column_of (refusal x))) e)

        -- the sheet is read
        module _ {h : Trailer} {u : ℤ} (e : r ≡ Ok h) (same : u ≡ h.t) where
          right : Ok tt ≡ sheet_fault sheet
          right = sym (sym read_fault ∙ same_fault ∙ ap refusal e)

          filled : Filled sheet out h.p h.n h.t after
          filled = (subst (λ (x : Result Trailer Refusal). Promise sheet out x after) e told).meant

          sized : h.n ≡ size_of sheet
          sized = filled.size

          scores_told : take (half h.n) after ≡ scores_of sheet
          unfolding scores_of
          scores_told =
              ap (λ (m : ℕ). take (half m) after) sized ∙ ap (take (half (size_of sheet))) filled.scores ∙
              take_at (scores_of sheet) (drop (half (size_of sheet)) out) (half (size_of sheet))
              (length_each (half (size_of sheet)) (score_at sheet (notes_of sheet)))

          pub listed_right :
              length after ≡ length out →
              ((h.n ≤ 128) × (half h.n ≤ length after))
              × ((on_scale u ≡ true) × (Ok tt ≡ scores_off h.n (take (half h.n) after)))
          listed_right long =
              let ok = sound sheet right in
              let few : h.n ≤ 128 = omega (arith, sized, ok.0.few) in (
                (few, omega (arith, pairs_few h.n few)),
                (
                  ap on_scale (same ∙ filled.threshold) ∙ ok.1,
                  ok.2 ∙ sym (ap (λ (m : ℕ). scores_off m (take (half h.n) after)) sized ∙ ap (scores_off (size_of sheet)) scores_told),
                ),
              )

          pub listed_paged :
              {now : List ℕ} →
              Searched h.n (edge h.n (square h.n (edge_byte h.n u (take (half h.n) after))))
              (toll_of (square h.n (price_entry h.n u (take (half h.n) after)))) now → Lines sheet now
          unfolding graph_of prices_of
          listed_paged {now} page = lines now (read_fault ∙ sym right) ((rw (scores_told, same, filled.threshold, sized) at page))
