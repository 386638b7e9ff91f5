-- The working table of costs made from prices. Assumes nothing.
use Rattle.std.specs.Prelude.{◌≡◌, ◌&&◌, List, ℕ, ◌+◌, ◌*◌, ◌/◌, ◌%◌, ◌<◌, length, get_or, ltb}
use Rattle.bits.specs.Choice.{pick}
use Rattle.graph.specs.Price.{fixed}

-- what stands at p of the table: the price of row p / 128, column p % 128 where these are a pair, first the smaller; else 65,535
unfoldable pub cost_at : ℕ → List ℕ → ℕ → ℕ
cost_at n prices p =
    pick (ltb (p / 128) (p % 128) && ltb (p % 128) n) (get_or prices (p / 128 * n + p % 128) 0) fixed

-- the whole table
pub record Costs (n : ℕ) (prices cost : List ℕ) : Type 0 where
  pub many : length cost ≡ 16384
  pub each : (p : ℕ) → p < 16384 → get_or cost p 0 ≡ cost_at n prices p

-- the table up to m, with 65,535 behind it
pub record Filled (n : ℕ) (prices : List ℕ) (m : ℕ) (cost : List ℕ) : Type 0 where
  pub many : length cost ≡ 16384
  pub each : (p : ℕ) → p < 16384 → get_or cost p 0 ≡ pick (ltb p m) (cost_at n prices p) fixed
