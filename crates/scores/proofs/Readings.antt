-- The answers of `read` and `notes`, one lemma for each return. Assumes nothing.
use mathlib.Core.Path.{◌≡◌, refl, sym, ◌∙◌, ap}
use mathlib.Core.List.{List, [], ◌∷◌}
use Prim.Native.Nat.{ℕ, ◌≤◌, ◌<◌}
use lib.ListN.{length, take}
use lib.Seq.{paste}
use lib.IntN.{ℤ}
use borrow.Author.Tests.{lt-ltb, le-ltb}
use Rattle.std.specs.Prelude.{Ok, Err}
use Rattle.graph.specs.declared.Refusal.{Refusal}
use Rattle.graph.specs.declared.Refusal.TheVariants.{NoRoom}
use Rattle.graph.specs.Refusal.{Finding, first_of}
use Rattle.graph.proofs.Refusals.{first_of_single}
use Rattle.scores.specs.Scale.{half}
use Rattle.scores.specs.Sheet.{notes_of, size_of, scores_of, score_at}
use Rattle.scores.specs.declared.Trailer.{Trailer}
use Rattle.scores.specs.Inner.{scores_in, trailer_of}
use Rattle.scores.specs.Reader.{no_room, sheet_fault, checks, Promise, if_fine, shown}
use Rattle.scores.proofs.Checking.{hit, pass, done, decided, left_over}
use Rattle.scores.proofs.Squares.{length_each}
use Rattle.scores.proofs.Pasting.{pasted}

module _ (sheet : List ℕ) (out : List ℤ) where
  abbrev room : List Finding
  room = no_room out (size_of sheet) ∷ []

  pub refused_sheet : {r : Refusal} → Err r ≡ sheet_fault sheet → Promise sheet out (Err r) out
  unfolding checks
  refused_sheet e = record {
    refused = decided (sheet_fault sheet ∷ []) room refl (e ∙ sym (first_of_single (sheet_fault sheet)));
    meant = refl;
  }

  module _ (right : Ok tt ≡ sheet_fault sheet) where
    rest : first_of room ≡ first_of (checks sheet out)
    unfolding checks
    rest = left_over (sheet_fault sheet ∷ []) room (right ∙ sym (first_of_single (sheet_fault sheet)))

    pub refused_room : length out < half (size_of sheet) → Promise sheet out (Err NoRoom) out
    unfolding no_room
    refused_room h = record { refused = hit NoRoom [] (lt-ltb _ _ h) ∙ rest; meant = refl }

    pub read_all :
        {h : Trailer} {after : List ℤ} → half (size_of sheet) ≤ length out → h ≡ trailer_of sheet →
        after ≡ paste out 0 (scores_in sheet h.p h.n) (half h.n) → Promise sheet out (Ok h) after
    unfolding no_room scores_of
    read_all {h} {after} room_left same e = record {
      refused = done ∙ pass NoRoom [] (le-ltb _ _ room_left) ∙ rest;
      meant = record {
        behind = ap (λ (x : Trailer). x.p) same;
        size = ap (λ (x : Trailer). x.n) same;
        threshold = ap (λ (x : Trailer). x.t) same;
        scores =
            rw same at e
            ∙ pasted out (scores_in sheet (notes_of sheet) (size_of sheet)) (half (size_of sheet))
            (length_each (half (size_of sheet)) (score_at sheet (notes_of sheet)));
      };
    }

-- the notes
pub shown_none : (sheet : List ℕ) {r : Refusal} → Err r ≡ sheet_fault sheet → [] ≡ shown sheet
unfolding shown
shown_none sheet e = sym (ap (λ y. if_fine y (take (notes_of sheet) sheet)) (sym e))

pub shown_all : (sheet : List ℕ) → Ok tt ≡ sheet_fault sheet → take (notes_of sheet) sheet ≡ shown sheet
unfolding shown
shown_all sheet e = sym (ap (λ y. if_fine y (take (notes_of sheet) sheet)) (sym e))
