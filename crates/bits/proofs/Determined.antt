-- Each contract of this crate determines its answer: any two answers that it allows are equal.
-- `has` and `ones_of` say their answer by an equation; the rest follows from a word being known by its bits. Assumes nothing.
use mathlib.Core.Path.{◌≡◌, sym, ◌∙◌}
use mathlib.Core.Bool.{Bool}
use Prim.Native.Nat.{ℕ, ◌^◌, ◌<◌}
use Rattle.bits.specs.Bit.{bit}
use Rattle.bits.specs.Word.{Lowest, Cleared}
use Rattle.bits.proofs.Digit.{bit_ext}
use Rattle.bits.proofs.Lowest.{lowest, lowest_unique}

-- flipped, without, both, less, either, from: a word whose every bit is given
pub word_determined : (f : ℕ → Bool) {r s : ℕ} → r < 2 ^ 64 → s < 2 ^ 64
    → ((j : ℕ) → bit r j ≡ f j) → ((j : ℕ) → bit s j ≡ f j) → r ≡ s
word_determined f hr hs a b = bit_ext 64 hr hs (λ j h. a j ∙ sym (b j))

pub low_determined : {w r s : ℕ} → Lowest w r → Lowest w s → r ≡ s
low_determined a b = lowest_unique a b

pub rest_determined : {w r s : ℕ} → 0 < w → w < 2 ^ 64 → r < 2 ^ 64 → s < 2 ^ 64 → Cleared w r → Cleared w s → r ≡ s
rest_determined p h hr hs a b =
    let l = lowest p h in bit_ext 64 hr hs (λ j k. a.bits l.0 l.1 j ∙ sym (b.bits l.0 l.1 j))
