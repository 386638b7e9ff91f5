-- Lists made entry by entry, and matrices row by row: their lengths and their entries. By induction on the count.
-- Assumes nothing.
use mathlib.Core.Path.{◌≡◌, refl, sym, ◌∙◌, ap}
use mathlib.Core.Logic.{◌⊎◌, inl, inr}
use mathlib.Core.List.{List, [], ◌∷◌, ◌++◌}
use Prim.Native.Nat.{ℕ, zero, suc, ◌+◌, ◌*◌, ◌/◌, ◌%◌, ◌≤◌, ◌<◌}
use native.Mathlib.Nat.{div-add-mod', suc-mul, zero-mul, mul-le-mul_right, mod-lt, div-lt_iff_lt-mul}
use native.Mathlib.Omega.{arith}
use lib.ListN.{length, get_or, set, length-append, get_or-append}
use lib.Seq.{paste, get_or-append-add, get_or_at}
use Rattle.bits.proofs.Truth.{below}
use Rattle.graph.specs.Each.{each}
use Rattle.scores.specs.Scale.{square}
use Rattle.scores.proofs.Pasting.{one_more}

module _ {A : Type 0} where
  pub length_each : (n : ℕ) (f : ℕ → A) → length (each n (λ k. f k ∷ [])) ≡ n
  unfolding each
  length_each zero f = refl
  length_each (suc n) f =
      length-append (each n (λ k. f k ∷ [])) (f n ∷ []) ∙ ap (λ m. m + 1) (length_each n f) ∙ omega arith

  pub each_at : (n : ℕ) (f : ℕ → A) (k : ℕ) (d : A) → k < n → get_or (each n (λ k. f k ∷ [])) k d ≡ f k
  unfolding each
  each_at zero f k d h = absurd (omega arith)
  each_at (suc n) f k d h = go (each_at n f k d) (below k n)
    where
      go : (k < n → get_or (each n (λ k. f k ∷ [])) k d ≡ f k) → (k < n) ⊎ (n ≤ k) → get_or (each n (λ k. f k ∷ []) ++ (f n ∷ [])) k d ≡ f k
      go lower (inl p) =
          let l : k < length (each n (λ k. f k ∷ [])) = omega (arith, length_each n f) in
          get_or-append (each n (λ k. f k ∷ [])) (f n ∷ []) d k l ∙ lower p
      go lower (inr p) =
          let e : k ≡ n = omega arith in
          ap (λ x. get_or (each n (λ k. f k ∷ []) ++ (f n ∷ [])) x d) e
          ∙ get_or_at (each n (λ k. f k ∷ [])) (f n) [] d n (length_each n f)
          ∙ ap f (sym e)

  -- m rows of n entries each
  module _ (n : ℕ) (row : ℕ → List A) (even : (i : ℕ) → length (row i) ≡ n) where
    pub length_rows : (m : ℕ) → length (each m row) ≡ m * n
    unfolding each
    length_rows zero = sym (zero-mul n)
    length_rows (suc m) = length-append (each m row) (row m) ∙ omega (arith, length_rows m, even m, suc-mul m n)

    pub rows_at : (m i j : ℕ) (d : A) → i < m → j < n → get_or (each m row) (i * n + j) d ≡ get_or (row i) j d
    unfolding each
    rows_at zero i j d hi hj = absurd (omega arith)
    rows_at (suc m) i j d hi hj = go (rows_at m i j d) (below i m)
      where
        go :
            (i < m → j < n → get_or (each m row) (i * n + j) d ≡ get_or (row i) j d) → (i < m) ⊎ (m ≤ i) →
            get_or (each m row ++ row m) (i * n + j) d ≡ get_or (row i) j d
        go lower (inl p) =
            let inside : i * n + j < length (each m row) =
            omega (arith, length_rows m, suc-mul i n, mul-le-mul_right n p) in
            get_or-append (each m row) (row m) d (i * n + j) inside ∙ lower p hj
        go lower (inr p) =
            let e : i ≡ m = omega arith in
            let at : i * n + j ≡ length (each m row) + j = ap (λ x. x * n + j) e ∙ omega (arith, length_rows m) in
            ap (λ x. get_or (each m row ++ row m) x d) at
            ∙ get_or-append-add (each m row) (row m) j d
            ∙ ap (λ x. get_or (row x) j d) (sym e)

pub length_square : (n : ℕ) (f : ℕ → ℕ → ℕ) → length (square n f) ≡ n * n
length_square n f = length_rows n (λ i. each n (λ j. f i j ∷ [])) (λ i. length_each n (f i)) n

pub square_at : (n : ℕ) (f : ℕ → ℕ → ℕ) (i j : ℕ) → i < n → j < n → get_or (square n f) (i * n + j) 0 ≡ f i j
square_at n f i j hi hj =
    rows_at n (λ i. each n (λ j. f i j ∷ [])) (λ i. length_each n (f i)) n i j 0 hi hj ∙ each_at n (f i) j 0 hj

-- entry c is row c / n, column c % n
pub row_column : (n c : ℕ) → c < n * n → (c / n < n) × (c % n < n) × (0 < n)
row_column n c h =
    let few : 0 < n = some n c h in
    ((div-lt_iff_lt-mul few).1 h, mod-lt c few, few)
  where
    some : (n c : ℕ) → c < n * n → 0 < n
    some zero c h = absurd (omega (arith, zero-mul 0))
    some (suc n) c h = omega arith

square_entry : (n : ℕ) (f : ℕ → ℕ → ℕ) (c : ℕ) → c < n * n → get_or (square n f) c 0 ≡ f (c / n) (c % n)
square_entry n f c h =
    let at = row_column n c h in
    ap (λ x. get_or (square n f) x 0) (sym (div-add-mod' c n)) ∙ square_at n f (c / n) (c % n) at.0 at.1

-- a matrix written entry by entry, row by row: one more entry
module _ (n : ℕ) (f : ℕ → ℕ → ℕ) (old : List ℕ) {now : List ℕ} (i j : ℕ) (so_far : now ≡ paste old 0 (square n f) (i * n + j)) where
  pub square_more : n * n ≤ length old → {v : ℕ} → i < n → j < n → v ≡ f i j → set now (i * n + j) v ≡ paste old 0 (square n f) (i * n + (j + 1))
  square_more room hi hj e =
      let inside : i * n + j < n * n = omega (arith, suc-mul i n, mul-le-mul_right n hi) in
      let next : i * n + j + 1 ≡ i * n + (j + 1) = omega arith in
      one_more old (square n f) (length_square n f) room (i * n + j) so_far 0 inside (e ∙ sym (square_at n f i j hi hj))
      ∙ ap (λ (x : ℕ). paste old 0 (square n f) x) next
