-- Two heights: where every free way costs at least m, what is left of the budget divided by m; where no way is ever
-- free, nothing. Assumes nothing.
use Prim.Native.Nat.{ℕ, ◌+◌, ◌*◌, ◌-◌, ◌/◌, ◌≤◌, ◌<◌}
use mathlib.Core.Path.{◌≡◌}
use mathlib.Core.Bool.{true, false}
use native.Mathlib.Nat.{suc-mul, le-div_iff_mul-le}
use native.Mathlib.Omega.{arith}
use lib.ListN.{length}
use Rattle.bits.proofs.Truth.{never}
use Rattle.walk.specs.Problem.{Problem}
use Rattle.walk.proofs.Laws.{Laws, Steep}

-- a number divided, and multiplied back, is no greater
back_le : (x m : ℕ) → 0 < m → x / m * m ≤ x
back_le x m pos = (le-div_iff_mul-le pos).0 (omega arith)

-- less to divide by at least m is less by one
div_falls : (x y m : ℕ) → 0 < m → y + m ≤ x → y / m < x / m
div_falls x y m pos h =
    let low = back_le y m pos in
    (le-div_iff_mul-le pos).1 (omega (arith, suc-mul (y / m) m))

div_mono : (x y m : ℕ) → 0 < m → y ≤ x → y / m ≤ x / m
div_mono x y m pos h =
    let low = back_le y m pos in
    (le-div_iff_mul-le pos).1 (omega arith)

module _
    {p : Problem}
    {price : p.Answer → ℕ}
    {Beats : p.Answer → p.Answer → Type 0}
    (l : Laws p price Beats)
    (k b : ℕ)
    (few : (s : p.Node) → l.Fit s → length (p.ways s) ≤ b)
  where
    unfoldable pub left : ℕ → p.Node → ℕ
    left m s = (k - p.spent s) / m

    pub left_most : (m : ℕ) (s : p.Node) → 0 < m → left m s ≤ k / m
    unfolding left
    left_most m s pos = div_mono k (k - p.spent s) m pos (omega arith)

    pub left_steep :
        (m : ℕ) → 0 < m → ((s : p.Node) (w : p.Way) → l.Fit s → p.free s w ≡ true → m ≤ p.toll w) →
        Steep p l.Fit k b (left m)
    unfolding left
    left_steep m pos least = record { few = few; lower = down; level = flat }
      where
        down :
            (s : p.Node) (w : p.Way) → l.Fit s → p.free s w ≡ true → p.spent s + p.toll w ≤ k →
            (k - p.spent (p.add s w)) / m < (k - p.spent s) / m
        down s w fit free within =
            let added = l.spent_add s w fit free in
            let cost = least s w fit free in
            div_falls (k - p.spent s) (k - p.spent (p.add s w)) m pos (omega arith)

        flat : (s : p.Node) (w : p.Way) → l.Fit s → (k - p.spent (p.mark s w)) / m ≤ (k - p.spent s) / m
        flat s w fit =
            let kept = l.spent_mark s w fit in
            div_mono (k - p.spent s) (k - p.spent (p.mark s w)) m pos (omega arith)

    pub flat_steep :
        ((s : p.Node) (w : p.Way) → l.Fit s → p.free s w ≡ false) → Steep p l.Fit k b (λ s. 0)
    flat_steep shut =
        record {
          few = few;
          lower = λ s w fit free within. never free (shut s w fit);
          level = λ s w fit. omega arith;
        }
