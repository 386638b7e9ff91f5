-- A graph as n x n bytes, 0 or 1: the entries, the edges that they give back, and that the checks 3 and 4 find nothing; the
-- bytes that pass these checks are such bytes. Two entries turned over are a pair toggled. Assumes nothing.
use mathlib.Core.Path.{◌≡◌, refl, sym, ◌∙◌, ap, fun_ext}
use mathlib.Core.Logic.{◌⊎◌, inl, inr, ◌≢◌}
use mathlib.Core.Bool.{Bool, true, false, not, ◌&&◌, ◌||◌}
use mathlib.Core.List.{List}
use Prim.Native.Nat.{ℕ, ◌+◌, ◌*◌, ◌/◌, ◌%◌, ◌≤◌, ◌<◌}
use native.Mathlib.Nat.{div-add-mod', mul-add-div_right, mul-add-mod_self_right, div-eq_of_lt, mod-eq_of_lt, suc-mul, mul-le-mul_right}
use native.Mathlib.Omega.{arith}
use lib.ListN.{length, get_or, length-set}
use lib.Seq.{ext_get_or, get_or-set_same, get_or-set_other}
use lib.Dec.{eqb}
use borrow.Author.Tests.{eqb-true, eq-eqb}
use Rattle.bits.specs.Choice.{pick}
use Rattle.bits.proofs.Truth.{never, which, same, equal, fails, and_in, and_left, and_right, pick_true, pick_false}
use Rattle.std.specs.Prelude.{Ok}
use Rattle.graph.specs.Graph.{IsGraph, edge, flipped}
use Rattle.graph.specs.Check.{entries}
use Rattle.graph.proofs.Reading.{small_good, entry_fine, fine_entries, edge_value, value_edge, entries_small}
use Rattle.scores.proofs.Squares.{length_square, square_at, row_column}
use Rattle.lines.specs.Inner.{drawn_of, turned}

-- 1 exactly where the test passes
one_true : (b : Bool) → ◌≡◌ {A = ℕ} (pick b 1 0) 1 → b ≡ true
one_true true h = refl
one_true false h = absurd (omega arith)

small : (b : Bool) → pick {A = ℕ} b 1 0 ≤ 1
small true = omega arith
small false = omega arith

-- the entry at row i, column j is inside
pub spot_inside : {n : ℕ} (i j : ℕ) → i < n → j < n → i * n + j < n * n
spot_inside {n} i j hi hj = omega (arith, suc-mul i n, mul-le-mul_right n hi)

-- rows and columns have different entries
row_of : (n i j : ℕ) → j < n → (i * n + j) / n ≡ i
row_of n i j h =
    mul-add-div_right {m = n} (omega arith) i j ∙ ap (λ t. i + t) (div-eq_of_lt {n = j} {m = n} h) ∙ omega arith

column_of_lem : (n i j : ℕ) → j < n → (i * n + j) % n ≡ j
column_of_lem n i j h = mul-add-mod_self_right i n j ∙ mod-eq_of_lt {n = j} {m = n} h

module _ (n : ℕ) (e : ℕ → ℕ → Bool) where
  pub drawn_long : length (drawn_of n e) ≡ n * n
  unfolding drawn_of
  drawn_long = length_square n (λ i j. pick (e i j) 1 0)

  pub drawn_at : (i j : ℕ) → i < n → j < n → get_or (drawn_of n e) (i * n + j) 0 ≡ pick (e i j) 1 0
  unfolding drawn_of
  drawn_at = square_at n (λ i j. pick (e i j) 1 0)

  -- bytes with these entries
  pub drawn_is :
      (g : List ℕ) → length g ≡ n * n → ((i j : ℕ) → i < n → j < n → get_or g (i * n + j) 0 ≡ pick (e i j) 1 0) →
      g ≡ drawn_of n e
  drawn_is g long at =
      ext_get_or 0 g (drawn_of n e) (long ∙ sym drawn_long)
      (λ c h.
      let in_row = row_column n c (omega arith) in
      ap (λ (k : ℕ). get_or g k 0) (sym (div-add-mod' c n)) ∙ at (c / n) (c % n) in_row.0 in_row.1 ∙
      sym (drawn_at (c / n) (c % n) in_row.0 in_row.1) ∙
      ap (λ (k : ℕ). get_or (drawn_of n e) k 0) (div-add-mod' c n))

  module _ (graph : IsGraph n e) where
    -- the edges that they give back
    pub drawn_edge : edge n (drawn_of n e) ≡ e
    drawn_edge =
        fun_ext (λ i. fun_ext (λ j. same
        (λ h.
        let (hi, hj, v) = edge_value n (drawn_of n e) i j h in
        one_true (e i j) (sym (drawn_at i j hi hj) ∙ v))
        (λ h.
        let at = graph.inside i j h in
        value_edge n (drawn_of n e) i j at.0 at.1 (drawn_at i j at.0 at.1 ∙ pick_true 1 0 h))))

    -- the checks 3 and 4 find nothing
    pub drawn_fine : entries n (drawn_of n e) ≡ Ok tt
    drawn_fine =
        fine_entries n (drawn_of n e) (λ i j hi hj.
        entry_fine n (drawn_of n e) i j
        (small_good n (drawn_of n e) i j (omega (arith, drawn_at i j hi hj, small (e i j)))
        (λ q. drawn_at i j hi hj ∙ pick_false 1 0 (ap (e i) (sym q) ∙ graph.loopless i)))
        (drawn_at i j hi hj ∙ ap (λ t. pick t 1 0) (graph.mirrored i j) ∙ sym (drawn_at j i hj hi)))

-- bytes that pass the checks are such bytes
pub fine_drawn : (n : ℕ) (g : List ℕ) → length g ≡ n * n → entries n g ≡ Ok tt → g ≡ drawn_of n (edge n g)
fine_drawn n g long ok = drawn_is n (edge n g) g long (λ i j hi hj. go i j hi hj (equal (get_or g (i * n + j) 0) 1))
  where
    go :
        (i j : ℕ) → i < n → j < n → (get_or g (i * n + j) 0 ≡ 1) ⊎ (get_or g (i * n + j) 0 ≢ 1) →
        get_or g (i * n + j) 0 ≡ pick (edge n g i j) 1 0
    go i j hi hj (inl v) = v ∙ sym (pick_true 1 0 (value_edge n g i j hi hj v))
    go i j hi hj (inr v) =
        let low = entries_small n g ok i j hi hj in
        let nought : get_or g (i * n + j) 0 ≡ 0 = omega arith in
        nought ∙ sym (pick_false 1 0 (fails (λ t. v (edge_value n g i j t).2)))

-- one entry turned over
one_way : ℕ → ℕ → (ℕ → ℕ → Bool) → ℕ → ℕ → Bool
one_way x y e i j = pick (eqb i x && eqb j y) (not (e i j)) (e i j)

pub turned_long : (g : List ℕ) (p : ℕ) → length (turned g p) ≡ length g
unfolding turned
turned_long g p = length-set g p _

module _ (n : ℕ) (e : ℕ → ℕ → Bool) (x y : ℕ) (hx : x < n) (hy : y < n) where
  turned_drawn : turned (drawn_of n e) (x * n + y) ≡ drawn_of n (one_way x y e)
  unfolding turned one_way
  turned_drawn =
      drawn_is n (one_way x y e) (turned (drawn_of n e) (x * n + y)) (turned_long (drawn_of n e) (x * n + y) ∙ drawn_long n e)
      (λ i j hi hj. go i j hi hj (which (eqb i x && eqb j y)))
    where
      turn : (b : Bool) → ◌≡◌ {A = ℕ} (pick (eqb (pick b 1 0) 1) 0 1) (pick (not b) 1 0)
      turn true = refl
      turn false = refl

      go :
          (i j : ℕ) → i < n → j < n → ((eqb i x && eqb j y) ≡ true) ⊎ ((eqb i x && eqb j y) ≡ false) →
          get_or (turned (drawn_of n e) (x * n + y)) (i * n + j) 0 ≡ pick (one_way x y e i j) 1 0
      go i j hi hj (inl h) =
          let ei : i ≡ x = eqb-true i x (and_left (eqb i x) (eqb j y) h) in
          let ej : j ≡ y = eqb-true j y (and_right (eqb i x) (eqb j y) h) in
          let spot : i * n + j ≡ x * n + y = ap (λ t. t * n + j) ei ∙ ap (λ t. x * n + t) ej in
          ap (λ (k : ℕ). get_or (turned (drawn_of n e) (x * n + y)) k 0) spot ∙
          get_or-set_same (drawn_of n e) (x * n + y) _ 0 (omega (arith, drawn_long n e, spot_inside x y hx hy)) ∙
          ap (λ v. pick (eqb v 1) 0 1) (ap (λ (k : ℕ). get_or (drawn_of n e) k 0) (sym spot) ∙ drawn_at n e i j hi hj) ∙
          turn (e i j) ∙ ap (λ t. pick t 1 0) (sym (pick_true (not (e i j)) (e i j) h))
      go i j hi hj (inr h) =
          get_or-set_other (drawn_of n e) (x * n + y) (i * n + j) _ 0
          (λ q.
          never
          (and_in (eq-eqb i x (sym (row_of n i j hj) ∙ ap (λ t. t / n) q ∙ row_of n x y hy))
          (eq-eqb j y (sym (column_of_lem n i j hj) ∙ ap (λ t. t % n) q ∙ column_of_lem n x y hy)))
          h) ∙
          drawn_at n e i j hi hj ∙ ap (λ t. pick t 1 0) (sym (pick_false (not (e i j)) (e i j) h))

-- two different entries turned over one after the other
either :
    (p q b : Bool) → (p ≡ true → q ≡ true → ⊥) →
    pick q (not (pick p (not b) b)) (pick p (not b) b) ≡ pick (p || q) (not b) b
either true true b h = absurd (h refl refl)
either true false b h = refl
either false true b h = refl
either false false b h = refl

-- an entry and its mirror: the pair is toggled
pub turned_both :
    (n : ℕ) (e : ℕ → ℕ → Bool) (x y : ℕ) → x < n → y < n → x ≢ y →
    turned (turned (drawn_of n e) (x * n + y)) (y * n + x) ≡ drawn_of n (flipped x y e)
unfolding one_way flipped
turned_both n e x y hx hy apart =
    ap (λ g. turned g (y * n + x)) (turned_drawn n e x y hx hy) ∙ turned_drawn n (one_way x y e) y x hy hx ∙
    ap (drawn_of n) (fun_ext (λ i. fun_ext (λ j. either (eqb i x && eqb j y) (eqb i y && eqb j x) (e i j) (once i j))))
  where
    once : (i j : ℕ) → (eqb i x && eqb j y) ≡ true → (eqb i y && eqb j x) ≡ true → ⊥
    once i j h k =
        apart
        (sym (eqb-true i x (and_left (eqb i x) (eqb j y) h)) ∙ eqb-true i y (and_left (eqb i y) (eqb j x) k))
