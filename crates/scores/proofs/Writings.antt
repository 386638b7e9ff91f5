-- The answers of `write`, one lemma for each return, and the bytes that its three writers leave. Assumes nothing.
use mathlib.Core.Path.{◌≡◌, refl, sym, ◌∙◌, ap}
use mathlib.Core.List.{List, [], ◌∷◌, ◌++◌}
use Prim.Native.Nat.{ℕ, ◌+◌, ◌*◌, ◌-◌, ◌≤◌, ◌<◌}
use native.Mathlib.Omega.{arith}
use lib.ListN.{length, take, drop, length-append}
use lib.Seq.{paste}
use lib.IntN.{ℤ}
use lib.Dec.{ltb}
use borrow.Author.Tests.{lt-ltb, le-ltb, ltb-false}
use borrow.Rule.Slice.PartMut.{put_mid}
use Rattle.std.specs.Prelude.{Ok, Err}
use Rattle.graph.specs.declared.Refusal.{Refusal}
use Rattle.graph.specs.declared.Refusal.TheVariants.{TooManyVertices, WrongLength, NoRoom, BadSheet}
use Rattle.graph.specs.Refusal.{Finding, first_of}
use Rattle.graph.specs.Check.{too_many, too_short}
use Rattle.graph.proofs.Refusals.{first_of_single}
use Rattle.scores.specs.Scale.{half, threshold_off, scores_off}
use Rattle.scores.specs.Sheet.{score_bytes, trailer, sheet_bytes, sheet_length}
use Rattle.scores.specs.Drawing.{wrong_count}
use Rattle.scores.specs.Writer.{long_notes, write_fault, checks, Promise}
use Rattle.scores.proofs.Checking.{hit, pass, done, fine_out, decided, left_over}
use Rattle.scores.proofs.Drawings.{counted}
use Rattle.scores.proofs.Places.{half_twice}
use Rattle.scores.proofs.Pasting.{pasted}
use Rattle.scores.proofs.Puts.{length_scores, length_trailer}
use Rattle.scores.proofs.Growing.{grown}

-- the notes from the start, the scores lent on behind them, the trailer lent on behind those
pub sheet_put :
    (buf notes : List ℕ) (scores : List ℤ) (n : ℕ) {t u : ℤ} → length scores ≡ half n → sheet_length (length notes) n ≤ length buf → u ≡ t →
    {a x y : List ℕ} → a ≡ paste buf 0 notes (length notes) →
    x ≡ paste (take (length a - length notes) (drop (length notes) a)) 0 (score_bytes scores) (2 * length scores) →
    y
    ≡ paste
    (take (length (put_mid (length notes) (length a - length notes) a x) - (length notes + 2 * length scores))
    (drop (length notes + 2 * length scores) (put_mid (length notes) (length a - length notes) a x)))
    0
    (trailer (length notes) n u)
    8 →
    put_mid (length notes + 2 * length scores)
    (length (put_mid (length notes) (length a - length notes) a x) - (length notes + 2 * length scores))
    (put_mid (length notes) (length a - length notes) a x)
    y
    ≡ sheet_bytes notes scores n t ++ drop (sheet_length (length notes) n) buf
unfolding sheet_bytes
sheet_put buf notes scores n {t} {u} count room same {a} {x} {y} ea ex ey =
    let p : ℕ = length notes in
    let two = half_twice n in
    let all : p + 2 * length scores + 8 ≡ sheet_length p n = omega arith in
    let first : a ≡ notes ++ drop p buf = ea ∙ pasted buf notes p refl in
    let second = grown buf notes (score_bytes scores) p (2 * length scores) refl (length_scores scores) (omega arith) first ex in
    let sized : length (notes ++ score_bytes scores) ≡ p + 2 * length scores =
    length-append notes (score_bytes scores) ∙ omega (arith, length_scores scores) in
    grown buf (notes ++ score_bytes scores) (trailer p n u) (p + 2 * length scores) 8 sized (length_trailer p n u) (omega arith) second ey
    ∙ ap (λ (z : ℤ). (notes ++ score_bytes scores ++ trailer p n z) ++ drop (p + 2 * length scores + 8) buf) same
    ∙ ap (λ (k : ℕ). (notes ++ score_bytes scores ++ trailer p n t) ++ drop k buf) all

module _ (notes : List ℕ) (scores : List ℤ) (n : ℕ) (t : ℤ) where
  abbrev counts : List Finding
  counts = too_many n ∷ wrong_count scores n ∷ []

  abbrev offs : List Finding
  offs = threshold_off t ∷ scores_off n scores ∷ []

  pub count_first : {r : Refusal} → Err r ≡ first_of counts → Err r ≡ write_fault notes scores n t
  unfolding write_fault
  count_first e = decided counts (long_notes notes ∷ offs) refl e

  module _ (right : Ok tt ≡ first_of counts) where
    pub notes_long : 32768 < length notes → Err BadSheet ≡ write_fault notes scores n t
    unfolding write_fault long_notes
    notes_long h = hit BadSheet offs (lt-ltb _ _ h) ∙ left_over counts (long_notes notes ∷ offs) right

    pub scale_decides : length notes ≤ 32768 → {x : Finding} → x ≡ first_of offs → x ≡ write_fault notes scores n t
    unfolding write_fault long_notes
    scale_decides h e = e ∙ pass BadSheet offs (le-ltb _ _ h) ∙ left_over counts (long_notes notes ∷ offs) right

  -- what the writer would refuse for nothing but room
  pub writable : Ok tt ≡ write_fault notes scores n t → (n ≤ 128) × (length scores ≡ half n) × (length notes ≤ 32768) × (Ok tt ≡ first_of offs)
  unfolding write_fault long_notes too_many wrong_count
  writable e =
      let a = fine_out TooManyVertices (ltb 128 n) _ e in
      let b = fine_out WrongLength _ (long_notes notes ∷ offs) a.1 in
      let d = fine_out BadSheet (ltb 32768 (length notes)) offs b.1 in
      let ok = counted n scores (done ∙ pass WrongLength [] b.0 ∙ pass TooManyVertices (wrong_count scores n ∷ []) a.0) in
      (ok.0, ok.1, ltb-false _ _ d.0, d.1)

  module _ (buf : List ℕ) where
    abbrev room : List Finding
    room = too_short buf (sheet_length (length notes) n) ∷ []

    pub refused_write : {r : Refusal} → Err r ≡ write_fault notes scores n t → Promise notes scores n t buf (Err r) buf
    unfolding checks
    refused_write e = record {
      refused = decided (write_fault notes scores n t ∷ []) room refl (e ∙ sym (first_of_single (write_fault notes scores n t)));
      meant = refl;
    }

    module _ (right : Ok tt ≡ write_fault notes scores n t) where
      rest : first_of room ≡ first_of (checks notes scores n t buf)
      unfolding checks
      rest = left_over (write_fault notes scores n t ∷ []) room (right ∙ sym (first_of_single (write_fault notes scores n t)))

      pub refused_room : length buf < sheet_length (length notes) n → Promise notes scores n t buf (Err NoRoom) buf
      unfolding too_short
      refused_room h = record { refused = hit NoRoom [] (lt-ltb _ _ h) ∙ rest; meant = refl }

      pub wrote :
          {size : ℕ} {after : List ℕ} {u : ℤ} → size ≡ sheet_length (length notes) n → size ≤ length buf → u ≡ t →
          after ≡ sheet_bytes notes scores n u ++ drop (sheet_length (length notes) n) buf → Promise notes scores n t buf (Ok size) after
      unfolding too_short
      wrote {size} {after} {u} es h same e = record {
        refused = done ∙ pass NoRoom [] (le-ltb (length buf) (sheet_length (length notes) n) (omega arith)) ∙ rest;
        meant = (
          es,
          e ∙ ap (λ (z : ℤ). sheet_bytes notes scores n z ++ drop (sheet_length (length notes) n) buf) same
              ∙ ap (λ (k : ℕ). sheet_bytes notes scores n t ++ drop k buf) (sym es),
        );
      }
