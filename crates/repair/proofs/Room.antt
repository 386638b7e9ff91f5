-- Room: a repair has at most n(n-1)/2 pairs, and so has the path of every node. It is a subset of the list of all pairs
-- that may be changed. Assumes nothing.
use mathlib.Core.Path.{◌≡◌}
use mathlib.Core.Bool.{true}
use mathlib.Core.List.{List}
use Prim.Native.Nat.{ℕ, ◌*◌, ◌-◌, ◌/◌, ◌≤◌}
use native.Mathlib.Nat.{mul-sub, mul-one}
use native.Mathlib.Omega.{arith}
use lib.ListN.{length}
use Rattle.bits.proofs.Truth.{and_left}
use Rattle.bits.specs.Choice.{count}
use Rattle.repair.specs.Pair.{is_pair, changeable, all, ascending}
use Rattle.repair.specs.Depth.{numbers, changeables}
use Rattle.repair.proofs.Sets.{all_at}
use Rattle.repair.proofs.Counts.{count_fewer}
use Rattle.repair.proofs.Listed.{numbers_ascending, those_ascending, those_counted}
use Rattle.repair.proofs.Depths.{changeables_in}
use Rattle.repair.proofs.Pairs.{pairs_counted, pairs_most}
use Rattle.repair.proofs.Supersets.{subset_shorter}

module _ (n : ℕ) (toll : ℕ → ℕ) (xs : List ℕ) (sorted : ascending xs ≡ true) (allowed : all (changeable n toll) xs ≡ true) where
  changeables_ascending : ascending (changeables n toll) ≡ true
  unfolding changeables
  changeables_ascending = those_ascending (changeable n toll) (numbers (n * n)) (numbers_ascending (n * n))

  changeables_length : length (changeables n toll) ≡ count (changeable n toll) (n * n)
  unfolding changeables
  changeables_length = those_counted (changeable n toll) (n * n)

  pub pairs_room : length xs ≤ count (is_pair n) (n * n)
  unfolding changeable
  pairs_room =
      omega (
        arith,
        changeables_length,
        subset_shorter xs (changeables n toll) sorted changeables_ascending
            (λ x m. changeables_in n toll x (all_at (changeable n toll) x xs allowed m)),
        count_fewer (changeable n toll) (is_pair n) (λ x h. and_left (is_pair n x) _ h) (n * n),
      )

  -- "n(n-1)/2 for a repair"
  pub room_enough : length xs ≤ n * (n - 1) / 2
  room_enough = omega (arith, pairs_room, pairs_counted n, mul-sub n n 1, mul-one n)

  -- "The two working lists hold 8,128 pair numbers each"
  pub room_most : n ≤ 128 → length xs ≤ 8128
  room_most h = omega (arith, pairs_room, pairs_most n h)
