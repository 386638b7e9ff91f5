-- The table of costs grows from its front, 65,535 behind. Assumes nothing.
use mathlib.Core.Path.{◌≡◌, refl, sym, ◌∙◌, ap}
use mathlib.Core.Logic.{◌⊎◌, inl, inr}
use mathlib.Core.Bool.{false, ◌&&◌}
use mathlib.Core.List.{List}
use Prim.Native.Nat.{ℕ, ◌+◌, ◌-◌, ◌*◌, ◌/◌, ◌%◌, ◌≤◌, ◌<◌}
use native.Mathlib.Omega.{arith}
use borrow.Rule.Slice.PartMut.{put_mid}
use lib.ListN.{length, get_or, take, drop, replicate, get_or-replicate}
use Rattle.std.proofs.Common.{rules}
use Rattle.std.proofs.lemmas.List.{places}
use lib.Dec.{ltb}
use borrow.Author.Tests.{lt-ltb, le-ltb}
use Rattle.bits.specs.Choice.{pick}
use Rattle.bits.proofs.Truth.{and_in, and_off_left, and_off_right, below, pick_true, pick_false}
use Rattle.graph.specs.Price.{fixed}
use Rattle.graph.proofs.CheckLaws.{inside}
use Rattle.bound.specs.Costs.{cost_at, Costs, Filled}

module _ (n : ℕ) (ps : List ℕ) where
  pub filled_none : Filled n ps 0 (replicate 16384 65535)
  filled_none =
      record {
        many = refl;
        each =
            λ p h.
            get_or-replicate 16384 p 65535 0 h ∙ sym (pick_false (cost_at n ps p) fixed (le-ltb p 0 (omega arith)));
      }

  -- places that are 65,535 anyway
  pub filled_skip :
      {m k : ℕ} {cost : List ℕ} → m ≤ k → ((p : ℕ) → m ≤ p → p < k → cost_at n ps p ≡ fixed) → Filled n ps m cost →
      Filled n ps k cost
  filled_skip {m} {k} {cost} l same F =
      record { many = F.many; each = λ p h. F.each p h ∙ at p (below p m) (below p k) }
    where
      at :
          (p : ℕ) → (p < m) ⊎ (m ≤ p) → (p < k) ⊎ (k ≤ p) →
          pick (ltb p m) (cost_at n ps p) fixed ≡ pick (ltb p k) (cost_at n ps p) fixed
      at p (inl a) b =
          pick_true (cost_at n ps p) fixed (lt-ltb p m a) ∙ sym (pick_true (cost_at n ps p) fixed (lt-ltb p k (omega arith)))
      at p (inr a) (inl b) =
          pick_false (cost_at n ps p) fixed (le-ltb p m a) ∙ sym (same p a b) ∙
          sym (pick_true (cost_at n ps p) fixed (lt-ltb p k b))
      at p (inr a) (inr b) =
          pick_false (cost_at n ps p) fixed (le-ltb p m a) ∙ sym (pick_false (cost_at n ps p) fixed (le-ltb p k b))

  -- more places, copied in behind
  filled_copy :
      (a k : ℕ) (cost ys : List ℕ) → a + k ≤ 16384 → length ys ≡ k → ((j : ℕ) → j < k → get_or ys j 0 ≡ cost_at n ps (a + j)) →
      Filled n ps a cost → Filled n ps (a + k) (put_mid a k cost ys)
  filled_copy a k cost ys fits many same F =
      let all : length cost ≡ 16384 = F.many in
      record { many = search (rules, places); each = λ p h. at p h (below p a) (below p (a + k)) }
    where
      at :
          (p : ℕ) → p < 16384 → (p < a) ⊎ (a ≤ p) → (p < a + k) ⊎ (a + k ≤ p) →
          get_or (put_mid a k cost ys) p 0 ≡ pick (ltb p (a + k)) (cost_at n ps p) fixed
      at p h (inl x) y =
          let front : get_or (put_mid a k cost ys) p 0 ≡ get_or cost p 0 = search (rules, places, F.many) in
          front ∙ F.each p h ∙ pick_true (cost_at n ps p) fixed (lt-ltb p a x) ∙
          sym (pick_true (cost_at n ps p) fixed (lt-ltb p (a + k) (omega arith)))
      at p h (inr x) (inl y) =
          let mid : get_or (put_mid a k cost ys) p 0 ≡ get_or ys (p - a) 0 = search (rules, places, F.many) in
          let back : a + (p - a) ≡ p = omega arith in
          mid ∙ same (p - a) (omega arith) ∙ ap (cost_at n ps) back ∙
          sym (pick_true (cost_at n ps p) fixed (lt-ltb p (a + k) y))
      at p h (inr x) (inr y) =
          let rest : get_or (put_mid a k cost ys) p 0 ≡ get_or cost p 0 = search (rules, places, F.many) in
          rest ∙ F.each p h ∙ pick_false (cost_at n ps p) fixed (le-ltb p a x) ∙
          sym (pick_false (cost_at n ps p) fixed (le-ltb p (a + k) y))

  -- no pair: 65,535
  pub cost_none : (p : ℕ) → (p / 128 < p % 128 → p % 128 < n → ⊥) → cost_at n ps p ≡ fixed
  unfolding cost_at
  cost_none p h = pick_false (get_or ps (p / 128 * n + p % 128) 0) fixed (go (below (p / 128) (p % 128)) (below (p % 128) n))
    where
      go :
          (p / 128 < p % 128) ⊎ (p % 128 ≤ p / 128) → (p % 128 < n) ⊎ (n ≤ p % 128) →
          (ltb (p / 128) (p % 128) && ltb (p % 128) n) ≡ false
      go (inl a) (inl b) = absurd (h a b)
      go (inl a) (inr b) = and_off_right (ltb (p / 128) (p % 128)) (le-ltb (p % 128) n b)
      go (inr a) b = and_off_left (ltb (p % 128) n) (le-ltb (p / 128) (p % 128) a)

  -- a pair: its price
  pub cost_pair : (i j : ℕ) → i < j → j < n → n ≤ 128 → get_or ps (i * n + j) 0 ≡ cost_at n ps (i * 128 + j)
  unfolding cost_at
  cost_pair i j a b few =
      let row : (i * 128 + j) / 128 ≡ i = omega arith in
      let column : (i * 128 + j) % 128 ≡ j = omega arith in
      rw (row, column) (sym (pick_true (get_or ps (i * n + j) 0) fixed (and_in (lt-ltb i j a) (lt-ltb j n b))))

  -- the table is whole
  pub filled_end : {m : ℕ} {cost : List ℕ} → n ≤ m → Filled n ps (m * 128) cost → Costs n ps cost
  filled_end {m} {cost} l F =
      record { many = F.many; each = λ p h. F.each p h ∙ at p (below p (m * 128)) }
    where
      at : (p : ℕ) → (p < m * 128) ⊎ (m * 128 ≤ p) → pick (ltb p (m * 128)) (cost_at n ps p) fixed ≡ cost_at n ps p
      at p (inl a) = pick_true (cost_at n ps p) fixed (lt-ltb p (m * 128) a)
      at p (inr a) =
          pick_false (cost_at n ps p) fixed (le-ltb p (m * 128) a) ∙ sym (cost_none p (λ x y. omega arith))

  -- a row of the table: up to its first pair, its pairs, and to its end
  pub row_copied :
      (i : ℕ) (cost ys : List ℕ) → n ≤ 128 → i < n → length ps ≡ n * n →
      ys ≡ take (i * n + n - (i * n + i + 1)) (drop (i * n + i + 1) ps) → Filled n ps (i * 128) cost →
      Filled n ps ((i + 1) * 128) (put_mid (i * 128 + i + 1) (i * 128 + n - (i * 128 + i + 1)) cost ys)
  row_copied i cost ys few l many e F =
      filled_skip (omega arith) (λ p x y. cost_none p (λ z w. omega arith))
      (filled_copy (i * 128 + i + 1) (i * 128 + n - (i * 128 + i + 1)) cost ys (omega arith) as_many same
      (filled_skip (omega arith) (λ p x y. cost_none p (λ z w. omega arith)) F))
    where
      as_many : length ys ≡ i * 128 + n - (i * 128 + i + 1)
      as_many =
          let last : n - 1 < n = omega arith in
          let room = inside few l last in
          let part : length (take (i * n + n - (i * n + i + 1)) (drop (i * n + i + 1) ps)) ≡ i * n + n - (i * n + i + 1) = search (rules, places, many, room) in
          ap length e ∙ part ∙ omega arith

      same : (j : ℕ) → j < i * 128 + n - (i * 128 + i + 1) → get_or ys j 0 ≡ cost_at n ps (i * 128 + i + 1 + j)
      same j h =
          let there : get_or (take (i * n + n - (i * n + i + 1)) (drop (i * n + i + 1) ps)) j 0 ≡ get_or ps (i * n + (i + 1 + j)) 0 =
          search (rules, places)
          in
          let here : i * 128 + (i + 1 + j) ≡ i * 128 + i + 1 + j = omega arith in
          ap (λ v. get_or v j 0) e ∙ there ∙ cost_pair i (i + 1 + j) (omega arith) (omega arith) few ∙ ap (cost_at n ps) here
