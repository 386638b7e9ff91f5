-- The place of a pair in the table and its number tell each other; the places of a quad's six pairs. Assumes nothing.
use mathlib.Core.Path.{◌≡◌, refl, sym, ap, ap₂, ◌∙◌}
use mathlib.Core.Logic.{◌≢◌}
use mathlib.Core.Bool.{Bool, true}
use mathlib.Core.List.{map}
use Prim.Native.Nat.{ℕ, zero, suc, ◌+◌, ◌*◌, ◌/◌, ◌%◌, ◌≤◌, ◌<◌, min, max}
use native.Mathlib.Nat.{div-add-mod', mod-lt}
use native.Mathlib.Omega.{arith}
use lib.ListN.{get_or}
use Rattle.graph.specs.declared.Quad.{Quad}
use Rattle.graph.proofs.Facts.{Apart, quad_induced}
use Rattle.graph.proofs.Quads.{Named}
use Rattle.repair.specs.Pair.{pair_of, is_pair}
use Rattle.repair.specs.Packing.{pairs_of}
use Rattle.repair.proofs.Numbers.{pair_low, pair_high, pair_below, pair_is}
use Rattle.memory.specs.Table.{Place, number_at}
use Rattle.search.specs.Steps.{Six}

-- of the pair number x of n vertices, its place
abbrev pub index : ℕ → ℕ → ℕ
index n x = x / n * 128 + x % n

module _ (n p : ℕ) (few : n ≤ 128) (at : Place n p) where
  pub number_pair : number_at n p ≡ pair_of n (p / 128) (p % 128)
  unfolding number_at pair_of
  number_pair =
      let low : min (p / 128) (p % 128) ≡ p / 128 = omega (arith, at.apart) in
      let high : max (p / 128) (p % 128) ≡ p % 128 = omega (arith, at.apart) in
      ap₂ (λ s t. s * n + t) (sym low) (sym high)

  pub number_index : index n (number_at n p) ≡ p
  number_index =
      let row = pair_low n (p / 128) (p % 128) (omega (arith, at.apart, at.inside)) at.inside in
      let column = pair_high n (p / 128) (p % 128) (omega (arith, at.apart, at.inside)) at.inside in
      ap (index n) number_pair ∙ ap₂ (λ s t. s * 128 + t) row column ∙ omega (arith, at.apart)

  pub number_below : number_at n p < n * n
  number_below =
      rw number_pair (pair_below n (p / 128) (p % 128) (omega (arith, at.apart, at.inside)) at.inside)

  -- it is the number of a pair
  pub number_is : is_pair n (number_at n p) ≡ true
  number_is =
      ap (is_pair n) number_pair ∙
      pair_is n (p / 128) (p % 128) (omega (arith, at.apart, at.inside)) at.inside (omega (arith, at.apart))

  -- another number has another place
  pub index_apart : (x : ℕ) → x ≢ number_at n p → index n x ≢ p
  unfolding number_at
  index_apart x other e =
      let small = mod-lt x {m = n} (omega (arith, at.inside)) in
      let row : x / n ≡ p / 128 = omega arith in
      let column : x % n ≡ p % 128 = omega arith in
      other (sym (div-add-mod' x n) ∙ ap₂ (λ s t. s * n + t) row column)

module _ (n x y : ℕ) (few : n ≤ 128) (lx : x < n) (ly : y < n) where
  -- the pair of x and y: its place, and the number of that
  pub place_number : number_at n (pair_of 128 x y) ≡ pair_of n x y
  unfolding number_at pair_of
  place_number =
      ap₂ (λ s t. s * n + t) (unfold pair_of in pair_low 128 x y (omega arith) (omega arith))
      (unfold pair_of in pair_high 128 x y (omega arith) (omega arith))

  pub place_fits : pair_of 128 x y < 16384
  unfolding pair_of
  place_fits = omega arith

  pub place_is : x ≢ y → Place n (pair_of 128 x y)
  place_is other =
      let row = pair_low 128 x y (omega arith) (omega arith) in
      let column = pair_high 128 x y (omega arith) (omega arith) in
      record { apart = rw (row, column) (omega arith); inside = rw column (omega arith) }

module _ (n : ℕ) (e : ℕ → ℕ → Bool) (few : n ≤ 128) (q : Quad) (named : Named n e q) where
  -- the six places are those of the six numbers
  pub places_numbers : map (number_at n) (pairs_of 128 q) ≡ pairs_of n q
  unfolding pairs_of
  places_numbers =
      let ab = place_number n q.a q.b few named.a_in named.b_in in
      let ac = place_number n q.a q.c few named.a_in named.c_in in
      let ad = place_number n q.a q.d few named.a_in named.d_in in
      let bc = place_number n q.b q.c few named.b_in named.c_in in
      let bd = place_number n q.b q.d few named.b_in named.d_in in
      let cd = place_number n q.c q.d few named.c_in named.d_in in
      cc

  pub places_six : Six n (pairs_of 128 q)
  unfolding pairs_of
  places_six = record { many = refl; each = each }
    where
      apart : Apart q.a q.b q.c q.d
      apart = (quad_induced e q.a q.b q.c q.d named.quad).apart

      at : (x y : ℕ) → x < n → y < n → x ≢ y → (pair_of 128 x y < 16384) × Place n (pair_of 128 x y)
      at x y lx ly other = (place_fits n x y few lx ly, place_is n x y few lx ly other)

      each : (w : ℕ) → w < 6 → (get_or (pairs_of 128 q) w 0 < 16384) × Place n (get_or (pairs_of 128 q) w 0)
      each zero h = at q.a q.b named.a_in named.b_in apart.ab
      each (suc zero) h = at q.a q.c named.a_in named.c_in apart.ac
      each (suc (suc zero)) h = at q.a q.d named.a_in named.d_in apart.ad
      each (suc (suc (suc zero))) h = at q.b q.c named.b_in named.c_in apart.bc
      each (suc (suc (suc (suc zero)))) h = at q.b q.d named.b_in named.d_in apart.bd
      each (suc (suc (suc (suc (suc zero))))) h = at q.c q.d named.c_in named.d_in apart.cd
      each (suc (suc (suc (suc (suc (suc w)))))) h = absurd (omega arith)
