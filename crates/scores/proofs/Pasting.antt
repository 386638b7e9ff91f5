-- A list written from the start of another: one more entry, the whole, and the length. The kit's laws of `paste` at place 0.
-- Assumes nothing.
use mathlib.Core.Path.{◌≡◌, sym, ◌∙◌, ap, ap₂}
use mathlib.Core.List.{List, [], ◌++◌, append-nil}
use Prim.Native.Nat.{ℕ, ◌+◌, ◌≤◌, ◌<◌}
use native.Mathlib.Nat.{zero-add}
use native.Mathlib.Numerals.{add-one}
use native.Mathlib.Omega.{arith}
use lib.ListN.{length, get_or, take, drop, set, drop_of_length-le}
use lib.Seq.{paste, paste-suc, take_all, length-take-le}

module _ {A : Type 0} (d s : List A) where
  paste_next : (j : ℕ) (v z : A) → j < length d → j < length s → v ≡ get_or s j z → set (paste d 0 s j) j v ≡ paste d 0 s (j + 1)
  paste_next j v z hd hs e =
      ap (λ x. set (paste d 0 s j) j x) e
      ∙ ap (λ (k : ℕ). set (paste d 0 s j) k (get_or s j z)) (sym (zero-add j))
      ∙ paste-suc d 0 s j z (rw zero-add hd) hs
      ∙ ap (λ (k : ℕ). paste d 0 s k) (sym (add-one j))

  pub pasted : (m : ℕ) → length s ≡ m → paste d 0 s m ≡ s ++ drop m d
  pasted m e =
      ap (λ x. x ++ drop (0 + m) d) (take_all m s (omega arith)) ∙ ap (λ (k : ℕ). s ++ drop k d) (zero-add m)

-- a loop that writes s entry by entry from the start of a list with room for it
module _ {A : Type 0} (old s : List A) {m : ℕ} (sized : length s ≡ m) (room : m ≤ length old) {now : List A} (k : ℕ) (so_far : now ≡ paste old 0 s k) where
  pub one_more : (z : A) {v : A} → k < m → v ≡ get_or s k z → set now k v ≡ paste old 0 s (k + 1)
  one_more z {v} h e = ap (λ (l : List A). set l k v) so_far ∙ paste_next old s k v z (omega arith) (omega arith) e

  pub complete : k ≤ m → m ≤ k → now ≡ paste old 0 s m
  complete h l =
      let e : k ≡ m = omega arith in
      so_far ∙ ap (λ (x : ℕ). paste old 0 s x) e

-- a loop that writes s over the first entries, which are lent on
module _ {A : Type 0} (old s : List A) {m h : ℕ} (sized : length s ≡ m) (part : h ≡ m) (room : m ≤ length old) {now : List A} (k : ℕ) (so_far : now ≡ paste (take h old) 0 s k) where
  pub part_long : length (take h old) ≡ m
  part_long = length-take-le h old (omega arith) ∙ part

  pub part_more : (z : A) {v : A} → k < length (take h old) → (k < m → v ≡ get_or s k z) → set now k v ≡ paste (take h old) 0 s (k + 1)
  part_more z less e =
      let low : k < m = omega (arith, part_long) in
      one_more (take h old) s sized (omega (arith, part_long)) k so_far z low (e low)

  pub part_complete : k ≤ length (take h old) → length (take h old) ≤ k → now ++ drop h old ≡ paste old 0 s m
  part_complete low high =
      let none : drop m (take h old) ≡ [] = drop_of_length-le (take h old) (omega (arith, part_long)) in
      let whole : now ≡ s =
      complete (take h old) s sized (omega (arith, part_long)) k so_far (omega (arith, part_long)) (omega (arith, part_long))
      ∙ pasted (take h old) s m sized ∙ ap (λ l. s ++ l) none ∙ append-nil s in
      ap₂ (λ l (x : ℕ). l ++ drop x old) whole part ∙ sym (pasted old s m sized)
