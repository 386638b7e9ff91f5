-- The turns of the loops that write one piece behind the other: where they begin, and one piece more. Assumes nothing.
use mathlib.Core.Path.{◌≡◌, sym, ap}
use mathlib.Core.List.{List, ◌++◌, append-nil}
use Prim.Native.Nat.{ℕ, ◌+◌, ◌≤◌, ◌<◌}
use native.Mathlib.Omega.{arith}
use lib.ListN.{length}
use Rattle.graph.specs.Each.{each}
use Rattle.lines.proofs.Behind.{then_room, both, put_as, each_more, each_longer}

-- the pieces of the first k numbers are written, of m that have room
module _ (old : List ℕ) (f : ℕ → List ℕ) (m : ℕ) (room : length old + length (each m f) ≤ 131072) where
  pub each_start : old ≡ old ++ each 0 f
  unfolding each
  each_start = sym (append-nil old)

  part_room : (k : ℕ) → k < m → length old + length (each k f ++ f k) ≤ 131072
  part_room k h = omega (arith, ap length (each_more f k), each_longer f (k + 1) m (omega arith))

  module _ (k : ℕ) (h : k < m) {now : List ℕ} (put : now ≡ old ++ each k f) where
    pub each_room : length now + length (f k) ≤ 131072
    each_room = then_room old (each k f) (f k) (part_room k h) put

    pub each_next : {after : List ℕ} → after ≡ now ++ f k → after ≡ old ++ each (k + 1) f
    each_next more = put_as old (each_more f k) (both old (each k f) (f k) (part_room k h) put more)
