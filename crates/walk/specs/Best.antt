-- The single search's keeper: the best answer met so far, and what best means. Assumes nothing.
use Rattle.std.specs.Prelude.{ℕ, ◌≤◌, ◌<◌, ◌≡◌, Bool, false}
use Rattle.std.proofs.Math.Option.{Option, none, some}
use Rattle.bits.specs.Choice.{pick}
use Rattle.walk.specs.Problem.{Keeper}

-- "The one returned has the lowest price; among equals, the one whose ascending list .. is smaller": strictly better
pub record Order (Answer : Type 0) : Type 0 where
  pub price : Answer → ℕ
  pub better : Answer → Answer → Bool

module _ {Answer : Type 0} (o : Order Answer) where
  -- "keep it if none is kept or it is better"
  unfoldable pub keep_better : Option Answer → Answer → Option Answer
  keep_better none a = some a
  keep_better (some b) a = pick (o.better a b) (some a) (some b)

  -- "The limit starts at k"; ".. and set the limit to the kept price"
  unfoldable pub limit_of : ℕ → Option Answer → ℕ
  limit_of k none = k
  limit_of k (some a) = o.price a

  abbrev pub best_of : ℕ → Keeper Answer
  best_of k = record { Kept = Option Answer; empty = none; keep = keep_better; limit = limit_of k }

  -- "The one returned": one of the set, within k, and none of the set is better
  pub record Chosen (k : ℕ) (P : Answer → Type 0) (a : Answer) : Type 0 where
    pub member : P a
    pub within : o.price a ≤ k
    pub unbeaten : (b : Answer) → P b → o.better b a ≡ false

  -- "no repair within k", or the best one
  abbrev pub IsBest : ℕ → (Answer → Type 0) → Option Answer → Type 0
  IsBest k P none = (a : Answer) → P a → k < o.price a
  IsBest k P (some a) = Chosen k P a
