-- A buffer that is written from its start, part behind part: each part is lent on, and comes back. Assumes nothing.
use mathlib.Core.Path.{◌≡◌, sym, ◌∙◌, ap}
use mathlib.Core.List.{List, [], ◌++◌, append_assoc, append-nil}
use Prim.Native.Nat.{ℕ, ◌+◌, ◌-◌, ◌≤◌}
use native.Mathlib.Omega.{arith}
use lib.ListN.{length, take, drop, length-append, length-drop, drop_of_length-le}
use lib.Seq.{paste, take_at, drop_at, take_all, drop-drop}
use borrow.Rule.Slice.PartMut.{put_mid}
use Rattle.scores.proofs.Pasting.{pasted}

module _
    {A : Type 0}
    (old front s : List A)
    (k m : ℕ)
    (first : length front ≡ k)
    (sized : length s ≡ m)
    (room : k + m ≤ length old)
    {now after : List A}
    (so_far : now ≡ front ++ drop k old)
    (put : after ≡ paste (take (length now - k) (drop k now)) 0 s m) where
  behind : drop k now ≡ drop k old
  behind = ap (drop k) so_far ∙ drop_at front (drop k old) k first

  long : length now ≡ length old
  long = ap length so_far ∙ length-append front (drop k old) ∙ omega (arith, length-drop k old)

  lent : take (length now - k) (drop k now) ≡ drop k old
  lent =
      ap (λ l. take (length now - k) l) behind
      ∙ take_all (length now - k) (drop k old) (omega (arith, length-drop k old, long))

  rest : drop (length now - k) (drop k now) ≡ []
  rest =
      let short : length (drop k old) ≤ length now - k = omega (arith, length-drop k old, long) in
      ap (λ l. drop (length now - k) l) behind ∙ drop_of_length-le (drop k old) short

  written : after ≡ s ++ drop (k + m) old
  written =
      put ∙ ap (λ l. paste l 0 s m) lent ∙ pasted (drop k old) s m sized ∙ ap (λ l. s ++ l) (drop-drop m k old)

  pub grown : put_mid k (length now - k) now after ≡ (front ++ s) ++ drop (k + m) old
  grown =
      ap (λ l. take k now ++ (after ++ l)) rest
      ∙ ap (λ l. take k now ++ l) (append-nil after ∙ written)
      ∙ ap (λ l. l ++ (s ++ drop (k + m) old)) (ap (take k) so_far ∙ take_at front (drop k old) k first)
      ∙ sym (append_assoc front s (drop (k + m) old))

-- a part of m entries put behind the k that are known
pub grown_by :
    {A : Type 0} (old front s : List A) (k m : ℕ) → length front ≡ k → {now : List A} → now ≡ front ++ drop k old →
    put_mid k m now s ≡ (front ++ s) ++ drop (k + m) old
grown_by old front s k m first {now} so_far =
    ap (λ l. take k now ++ (s ++ drop m l)) (ap (drop k) so_far ∙ drop_at front (drop k old) k first)
    ∙ ap (λ l. l ++ (s ++ drop m (drop k old))) (ap (take k) so_far ∙ take_at front (drop k old) k first)
    ∙ ap (λ l. front ++ (s ++ l)) (drop-drop m k old)
    ∙ sym (append_assoc front s (drop (k + m) old))
