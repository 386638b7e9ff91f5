-- Numbers in decimal: the fuel does not count, one digit more, how many digits at most, and the number that they spell.
-- Assumes nothing.
use mathlib.Core.Path.{◌≡◌, refl, sym, ◌∙◌, ap}
use mathlib.Core.Logic.{◌⊎◌, inl, inr}
use mathlib.Core.List.{List, [], ◌∷◌, ◌++◌}
use Prim.Native.Nat.{ℕ, zero, suc, ◌+◌, ◌*◌, ◌-◌, ◌/◌, ◌%◌, ◌^◌, ◌≤◌, ◌<◌}
use native.Mathlib.Omega.{arith}
use borrow.Author.Tests.{lt-ltb, le-ltb}
use lib.ListN.{length, get_or, length-append, get_or-append}
use Rattle.std.specs.Fmt as told
use Rattle.std.proofs.lemmas.Fmt.{decimal_from_appends, length-decimal-le_succ}
use Rattle.bits.proofs.Truth.{below, pick_true, pick_false}
use Rattle.lines.specs.Text.{digit, spelled, decimal}

-- one digit
spelled_small : (f x : ℕ) → x < 10 → spelled (suc f) x ≡ digit x ∷ []
unfolding spelled
spelled_small f x h = pick_true _ _ (lt-ltb x 10 h)

-- one digit more
spelled_large : (f x : ℕ) → 10 ≤ x → spelled (suc f) x ≡ spelled f (x / 10) ++ (digit (x % 10) ∷ [])
unfolding spelled
spelled_large f x h = pick_false _ _ (le-ltb x 10 h)

-- the fuel does not count
spelled_fuel : (f g x : ℕ) → x < f → x < g → spelled f x ≡ spelled g x
spelled_fuel zero g x l m = absurd (omega arith)
spelled_fuel (suc f) zero x l m = absurd (omega arith)
spelled_fuel (suc f) (suc g) x l m = go (spelled_fuel f g (x / 10)) (below x 10)
  where
    go :
        (x / 10 < f → x / 10 < g → spelled f (x / 10) ≡ spelled g (x / 10)) → (x < 10) ⊎ (10 ≤ x) →
        spelled (suc f) x ≡ spelled (suc g) x
    go lower (inl h) = spelled_small f x h ∙ sym (spelled_small g x h)
    go lower (inr h) =
        spelled_large f x h ∙ ap (λ l. l ++ (digit (x % 10) ∷ [])) (lower (omega arith) (omega arith)) ∙
        sym (spelled_large g x h)

pub decimal_small : (x : ℕ) → x < 10 → decimal x ≡ digit x ∷ []
unfolding decimal
decimal_small x h = spelled_small x x h

pub decimal_large : (x : ℕ) → 10 ≤ x → decimal x ≡ decimal (x / 10) ++ (digit (x % 10) ∷ [])
unfolding decimal
decimal_large x h =
    spelled_large x x h ∙
    ap (λ l. l ++ (digit (x % 10) ∷ [])) (spelled_fuel x (suc (x / 10)) (x / 10) (omega arith) (omega arith))

-- the library's decimal is the same
pub decimal_told : (x : ℕ) → x < 2 ^ 64 → told.decimal x ≡ decimal x
unfolding decimal
decimal_told x h =
    sym
    (decimal_from_appends spelled (record { one = spelled_small; more = spelled_large }) (suc x) x h
    (omega (arith, length-decimal-le_succ x h)))

-- the number that some digits spell
abbrev pub value_from : ℕ → List ℕ → ℕ
value_from v [] = v
value_from v (d ∷ ds) = value_from (10 * v + (d - 48)) ds

value_last : (v : ℕ) (ds : List ℕ) (d : ℕ) → value_from v (ds ++ (d ∷ [])) ≡ 10 * value_from v ds + (d - 48)
value_last v [] d = refl
value_last v (c ∷ cs) d = value_last (10 * v + (c - 48)) cs d

-- "in decimal": the digits spell the number
spelled_value : (f x : ℕ) → x < f → value_from 0 (spelled f x) ≡ x
spelled_value zero x h = absurd (omega arith)
spelled_value (suc f) x h = go (spelled_value f (x / 10)) (below x 10)
  where
    go : (x / 10 < f → value_from 0 (spelled f (x / 10)) ≡ x / 10) → (x < 10) ⊎ (10 ≤ x) → value_from 0 (spelled (suc f) x) ≡ x
    go lower (inl l) = ap (value_from 0) (spelled_small f x l) ∙ omega arith
    go lower (inr l) =
        ap (value_from 0) (spelled_large f x l) ∙ value_last 0 (spelled f (x / 10)) (digit (x % 10)) ∙
        omega (arith, lower (omega arith))

pub decimal_value : (x : ℕ) → value_from 0 (decimal x) ≡ x
unfolding decimal
decimal_value x = spelled_value (suc x) x (omega arith)

-- "without leading zeros": the first digit of a number above 0 is not 0
spelled_first : (f x : ℕ) → x < f → 0 < x → (48 < get_or (spelled f x) 0 0) × (0 < length (spelled f x))
spelled_first zero x h p = absurd (omega arith)
spelled_first (suc f) x h p = go (spelled_first f (x / 10)) (below x 10)
  where
    go :
        (x / 10 < f → 0 < x / 10 → (48 < get_or (spelled f (x / 10)) 0 0) × (0 < length (spelled f (x / 10)))) →
        (x < 10) ⊎ (10 ≤ x) → (48 < get_or (spelled (suc f) x) 0 0) × (0 < length (spelled (suc f) x))
    go lower (inl l) = rw (spelled_small f x l) (omega arith, omega arith)
    go lower (inr l) =
        let front = lower (omega arith) (omega arith) in
        rw (spelled_large f x l) (
          omega (arith, get_or-append (spelled f (x / 10)) (digit (x % 10) ∷ []) 0 0 front.1, front.0),
          omega (arith, length-append (spelled f (x / 10)) (digit (x % 10) ∷ [])),
        )

pub decimal_first : (x : ℕ) → 0 < x → 48 < get_or (decimal x) 0 0
unfolding decimal
decimal_first x p = (spelled_first (suc x) x (omega arith) p).0
