-- How many numbers below k pass a test: laws of `count` over any test, by induction on k. Assumes nothing.
use mathlib.Core.Path.{◌≡◌, refl, sym, ◌∙◌, ap, ap₂}
use mathlib.Core.Logic.{◌⊎◌, inl, inr}
use mathlib.Core.Bool.{Bool, true, false, not, ◌&&◌}
use Prim.Native.Nat.{ℕ, zero, suc, ◌+◌, ◌≤◌, ◌<◌}
use native.Mathlib.Nat.{add-zero, add-suc, add_left_comm, eq-or-lt_of_le, le_of_suc-le-suc}
use native.Mathlib.Omega.{arith}
use Rattle.bits.specs.Choice.{pick, count}
use Rattle.bits.proofs.Truth.{never, fails, passes, pick_true, pick_false}

-- what a test adds to the count
abbrev pub one : Bool → ℕ
one t = pick t 1 0

pub one_le : (t : Bool) → one t ≤ 1
one_le true = omega arith
one_le false = omega arith

pub one_mono : (s t : Bool) → (s ≡ true → t ≡ true) → one s ≤ one t
one_mono true t h = rw (h refl) (omega arith)
one_mono false t h = omega arith

-- the clauses
pub count_zero : (f : ℕ → Bool) → count f 0 ≡ 0
unfolding count
count_zero f = refl

pub count_suc : (f : ℕ → Bool) (k : ℕ) → count f (suc k) ≡ one (f k) + count f k
unfolding count
count_suc f k = refl

-- tests that agree below k have one count
pub count_ext : (k : ℕ) {f g : ℕ → Bool} → ((j : ℕ) → j < k → f j ≡ g j) → count f k ≡ count g k
unfolding count
count_ext zero e = refl
count_ext (suc k) e = ap₂ (λ t n. one t + n) (e k (omega arith)) (count_ext k (λ j h. e j (omega arith)))

pub count_le : (f : ℕ → Bool) (k : ℕ) → count f k ≤ k
unfolding count
count_le f zero = omega arith
count_le f (suc k) = omega (arith, one_le (f k), count_le f k)

pub count_none : (k : ℕ) {f : ℕ → Bool} → ((j : ℕ) → j < k → f j ≡ false) → count f k ≡ 0
unfolding count
count_none zero e = refl
count_none (suc k) {f} e =
    let here : one (f k) ≡ 0 = pick_false 1 0 (e k (omega arith)) in
    let below : count f k ≡ 0 = count_none k (λ j h. e j (omega arith)) in omega arith

pub count_all : (k : ℕ) {f : ℕ → Bool} → ((j : ℕ) → j < k → f j ≡ true) → count f k ≡ k
unfolding count
count_all zero e = refl
count_all (suc k) {f} e =
    let here : one (f k) ≡ 1 = pick_true 1 0 (e k (omega arith)) in
    let below : count f k ≡ k = count_all k (λ j h. e j (omega arith)) in omega arith

-- a test that implies another passes no more often
pub count_mono : (k : ℕ) {f g : ℕ → Bool} → ((j : ℕ) → j < k → f j ≡ true → g j ≡ true) → count f k ≤ count g k
unfolding count
count_mono zero e = omega arith
count_mono (suc k) {f} {g} e =
    let below : count f k ≤ count g k = count_mono k (λ j h. e j (omega arith)) in
    omega (arith, one_mono (f k) (g k) (e k (omega arith)))

-- and less often where the other has a point that it lacks
pub count_less : (k : ℕ) {f g : ℕ → Bool} → ((j : ℕ) → j < k → f j ≡ true → g j ≡ true)
    → (i : ℕ) → i < k → f i ≡ false → g i ≡ true → count f k < count g k
unfolding count
count_less zero e i h p q = absurd (omega arith)
count_less (suc k) {f} {g} e i h p q =
    go (count_mono k below) (λ l. count_less k below i l p q) (eq-or-lt_of_le (le_of_suc-le-suc h))
  where
    below : (j : ℕ) → j < k → f j ≡ true → g j ≡ true
    below j l = e j (omega arith)

    go : count f k ≤ count g k → (i < k → count f k < count g k) → (i ≡ k) ⊎ (i < k)
        → suc (one (f k) + count f k) ≤ one (g k) + count g k
    go a less (inl s) =
        let off : one (f k) ≡ 0 = pick_false 1 0 (ap f (sym s) ∙ p) in
        let on : one (g k) ≡ 1 = pick_true 1 0 (ap g (sym s) ∙ q) in omega arith
    go a less (inr l) = omega (arith, one_mono (f k) (g k) (e k (omega arith)), less l)

-- so of two tests, one of which implies the other, that pass equally often each implies the other
pub count_same : (k : ℕ) {f g : ℕ → Bool} → ((j : ℕ) → j < k → f j ≡ true → g j ≡ true) → count g k ≤ count f k
    → (j : ℕ) → j < k → g j ≡ true → f j ≡ true
count_same k {f} {g} e h j l q =
    passes (λ p. let more : count f k < count g k = count_less k e j l p q in absurd (omega arith))

-- a test that passes somewhere is counted
pub count_some : (f : ℕ → Bool) (k i : ℕ) → i < k → f i ≡ true → 0 < count f k
count_some f k i h p =
    let none : count (λ j. false) k ≡ 0 = count_none k (λ j l. refl) in
    let more : count (λ j. false) k < count f k = count_less k (λ j l q. never q refl) i h refl p in omega arith

-- a test that is not counted passes nowhere
pub count_nowhere : (f : ℕ → Bool) (k : ℕ) → count f k ≡ 0 → (j : ℕ) → j < k → f j ≡ false
count_nowhere f k e j h = fails (λ p. let more : 0 < count f k = count_some f k j h p in absurd (omega arith))

-- the numbers below m + k are those below m and then k more
pub count_add : (f : ℕ → Bool) (m k : ℕ) → count f (m + k) ≡ count f m + count (λ j. f (m + j)) k
unfolding count
count_add f m zero = ap (count f) (add-zero m) ∙ sym (add-zero (count f m))
count_add f m (suc k) =
    ap (count f) (add-suc m k) ∙ ap (λ n. one (f (m + k)) + n) (count_add f m k)
    ∙ add_left_comm (one (f (m + k))) (count f m) (count (λ j. f (m + j)) k)

-- the first number is counted by itself
pub count_front : (f : ℕ → Bool) (k : ℕ) → count f (suc k) ≡ one (f 0) + count (λ j. f (suc j)) k
unfolding count
count_front f zero = refl
count_front f (suc k) =
    ap (λ n. one (f (suc k)) + n) (count_front f k)
    ∙ add_left_comm (one (f (suc k))) (one (f 0)) (count (λ j. f (suc j)) k)

-- what passes a test is what passes a second as well, and what does not
pub count_split : (f g : ℕ → Bool) (k : ℕ) → count f k ≡ count (λ j. f j && g j) k + count (λ j. f j && not (g j)) k
unfolding count
count_split f g zero = refl
count_split f g (suc k) = omega (arith, count_split f g k, one_split (f k) (g k))
  where
    one_split : (s t : Bool) → one s ≡ one (s && t) + one (s && not t)
    one_split true true = refl
    one_split true false = refl
    one_split false t = refl
