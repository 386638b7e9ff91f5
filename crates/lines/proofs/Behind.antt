-- Bytes behind what a page has: two pieces are written one behind the other, and each has room where both have. Assumes nothing.
use mathlib.Core.Path.{◌≡◌, sym, ◌∙◌, ap}
use mathlib.Core.Logic.{◌⊎◌, inl, inr}
use mathlib.Core.List.{List, [], ◌∷◌, ◌++◌, append_assoc}
use Prim.Native.Nat.{ℕ, zero, suc, ◌+◌, ◌≤◌, ◌<◌}
use native.Mathlib.Numerals.{add-one}
use native.Mathlib.Omega.{arith}
use lib.ListN.{length, get_or, take, length-append}
use lib.Seq.{take-suc}
use Rattle.bits.proofs.Truth.{below}
use Rattle.graph.specs.Each.{each}

-- the same bytes by another name
pub room_as : (old : List ℕ) {a b : List ℕ} → a ≡ b → length old + length b ≤ 131072 → length old + length a ≤ 131072
room_as old e room = omega (arith, ap length e)

pub put_as : (old : List ℕ) {now a b : List ℕ} → a ≡ b → now ≡ old ++ a → now ≡ old ++ b
put_as old e put = put ∙ ap (λ l. old ++ l) e

-- on an empty page
module _ {old : List ℕ} (empty : old ≡ []) where
  pub room_alone : (a : List ℕ) → length a ≤ 131072 → length old + length a ≤ 131072
  room_alone a room = omega (arith, ap length empty)

  pub put_alone : {now a : List ℕ} → now ≡ old ++ a → now ≡ a
  put_alone {a = a} put = put ∙ ap (λ l. l ++ a) empty

-- two pieces where both have room
module _ (old first then : List ℕ) (room : length old + length (first ++ then) ≤ 131072) where
  pub first_room : length old + length first ≤ 131072
  first_room = omega (arith, length-append first then)

  module _ {now : List ℕ} (put : now ≡ old ++ first) where
    pub then_room : length now + length then ≤ 131072
    then_room = omega (arith, length-append first then, ap length put, length-append old first)

    pub both : {after : List ℕ} → after ≡ now ++ then → after ≡ old ++ (first ++ then)
    both more = more ∙ ap (λ l. l ++ then) put ∙ append_assoc old first then

-- one piece after the other, for each number in order: the place of the next
pub each_more : (f : ℕ → List ℕ) (k : ℕ) → each k f ++ f k ≡ each (k + 1) f
unfolding each
each_more f k = ap (λ (m : ℕ). each m f) (sym (add-one k))

pub take_more : (word : List ℕ) (k : ℕ) → k < length word → take k word ++ (get_or word k 0 ∷ []) ≡ take (k + 1) word
take_more word k h = sym (take-suc word k 0 h) ∙ ap (λ (m : ℕ). take m word) (sym (add-one k))

-- more of them are no shorter
pub each_longer : (f : ℕ → List ℕ) (k m : ℕ) → k ≤ m → length (each k f) ≤ length (each m f)
unfolding each
each_longer f k zero h = let e : k ≡ 0 = omega arith in omega (arith, ap (λ (x : ℕ). length (each x f)) e)
each_longer f k (suc m) h = go (each_longer f k m) (below k (suc m))
  where
    go :
        (k ≤ m → length (each k f) ≤ length (each m f)) → (k < suc m) ⊎ (suc m ≤ k) →
        length (each k f) ≤ length (each (suc m) f)
    go shorter (inl l) = omega (arith, shorter (omega arith), length-append (each m f) (f m))
    go shorter (inr l) = let e : k ≡ suc m = omega arith in omega (arith, ap (λ (x : ℕ). length (each x f)) e)
