-- The single search's keeper is lawful: what it holds is best, and only one can be. By the order alone.
-- Assumes nothing.
use Prim.Native.Nat.{ℕ, ◌≤◌, ◌<◌}
use mathlib.Core.Path.{◌≡◌, refl, sym, ◌∙◌, ap}
use mathlib.Core.Logic.{◌⊎◌, inl, inr}
use mathlib.Core.Bool.{Bool, true, false}
use mathlib.Core.Option.{Option, none, some}
use native.Mathlib.Omega.{arith}
use Rattle.bits.specs.Choice.{pick}
use Rattle.bits.proofs.Truth.{never, which, fails}
use Rattle.walk.specs.Best.{Order, IsBest, best_of, keep_better, limit_of}
use Rattle.walk.proofs.Laws.{Keeping, Ordered, NotBetter, Either}

module _ {A : Type 0} {o : Order A} (r : Ordered o) where
  -- what costs more is not better
  dearer_not : (a b : A) → o.price a < o.price b → o.better b a ≡ false
  dearer_not a b h = fails (λ e. let d = r.no_dearer b a e in omega arith)

  -- what is not better than a is not better than what a does not beat
  not_better_trans :
      (a b c : A) → o.better b a ≡ false → o.better a c ≡ false → o.better b c ≡ false
  not_better_trans a b c hb hc = at (which (o.better c a))
    where
      at : (o.better c a ≡ true) ⊎ (o.better c a ≡ false) → o.better b c ≡ false
      at (inl beaten) = fails (λ e. never (r.transitive b c a e beaten) hb)
      at (inr equal) = ap (o.better b) (sym (r.total a c hc equal)) ∙ hb

  module _ (k : ℕ) where
    pub best_only : (P : A → Type 0) (x y : Option A) → IsBest o k P x → IsBest o k P y → x ≡ y
    best_only P none none hx hy = refl
    best_only P none (some b) hx hy = absurd (let h = hx b hy.member in omega (arith, hy.within))
    best_only P (some a) none hx hy = absurd (let h = hy a hx.member in omega (arith, hx.within))
    best_only P (some a) (some b) hx hy =
        ap some (r.total a b (hy.unbeaten a hx.member) (hx.unbeaten b hy.member))

    pub best_same :
        (P Q : A → Type 0) (x : Option A) → ((a : A) → P a → Q a) → ((a : A) → Q a → P a) → IsBest o k P x → IsBest o k Q x
    best_same P Q none to from h = λ a m. h a (from a m)
    best_same P Q (some a) to from h =
        record { member = to a h.member; within = h.within; unbeaten = λ b m. h.unbeaten b (from b m) }

    pub best_above :
        (P Q : A → Type 0) (x : Option A) → ((a : A) → Q a → limit_of o k x < o.price a) → IsBest o k P x →
        IsBest o k (Either P Q) x
    unfolding limit_of
    best_above P Q none high h = λ a. at a
      where
        at : (a : A) → P a ⊎ Q a → k < o.price a
        at a (inl m) = h a m
        at a (inr m) = high a m
    best_above P Q (some a) high h = record { member = inl h.member; within = h.within; unbeaten = at }
      where
        at : (b : A) → P b ⊎ Q b → o.better b a ≡ false
        at b (inl m) = h.unbeaten b m
        at b (inr m) = dearer_not a b (high b m)

    pub best_take :
        (P Q : A → Type 0) (x : Option A) (a : A) → Q a → ((b : A) → Q b → NotBetter o a b) → o.price a ≤ limit_of o k x →
        IsBest o k P x → IsBest o k (Either P Q) (keep_better o x a)
    unfolding limit_of keep_better
    best_take P Q none a ma beats fits h = record { member = inr ma; within = fits; unbeaten = at }
      where
        at : (b : A) → P b ⊎ Q b → o.better b a ≡ false
        at b (inl m) = let high = h b m in dearer_not a b (omega arith)
        at b (inr m) = beats b m
    best_take P Q (some c) a ma beats fits h = pick_one (o.better a c) refl
      where
        newer : o.better a c ≡ true → (b : A) → P b ⊎ Q b → o.better b a ≡ false
        newer e b (inl m) = fails (λ e'. never (r.transitive b a c e' e) (h.unbeaten b m))
        newer e b (inr m) = beats b m

        older : o.better a c ≡ false → (b : A) → P b ⊎ Q b → o.better b c ≡ false
        older e b (inl m) = h.unbeaten b m
        older e b (inr m) = not_better_trans a b c (beats b m) e

        pick_one : (t : Bool) → o.better a c ≡ t → IsBest o k (Either P Q) (pick t (some a) (some c))
        pick_one true e = record { member = inr ma; within = omega (arith, h.within); unbeaten = newer e }
        pick_one false e = record { member = inl h.member; within = h.within; unbeaten = older e }

    pub best_falls : (x : Option A) (a : A) → o.price a ≤ limit_of o k x → limit_of o k (keep_better o x a) ≤ limit_of o k x
    unfolding limit_of keep_better
    best_falls none a fits = fits
    best_falls (some c) a fits = at (o.better a c)
      where
        at : (t : Bool) → limit_of o k (pick t (some a) (some c)) ≤ o.price c
        at true = fits
        at false = omega arith

    abbrev pub keeping : Keeping (best_of o k) o.price (NotBetter o)
    keeping =
        record {
          Good = IsBest o k;
          start = λ a none'. absurd none';
          only = best_only;
          same = best_same;
          above = best_above;
          take = best_take;
          falls = best_falls;
        }
