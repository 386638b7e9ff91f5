-- The tally, and the repair that is kept. Assumes nothing.
use Rattle.std.specs.Prelude.{◌≡◌, Bool, true, ◌&&◌, ◌||◌, List, ◌++◌, ℕ, suc, ◌≤◌, length, take, drop, ltb, eqb, Option, Some, None}
use Rattle.bits.specs.Choice.{pick}
use Rattle.repair.specs.Better.{smaller}
use Rattle.memory.specs.declared.Tally.{Tally}

-- "The budget k is 0 to 81,280,000"
abbrev pub budget : ℕ
budget = 81280000

-- "Entering a node is one step."
pub record Entered (t here : Tally) : Type 0 where
  pub counted : here.steps ≡ suc t.steps
  pub limited : here.limit ≡ t.limit
  pub held : here.kept ≡ t.kept

-- the number of pairs of what is kept, if anything is, is at most `most`
abbrev pub Within : Option ℕ → ℕ → Type 0
Within None most = Unit {0}
Within (Some pairs) most = pairs ≤ most

-- "keep it if none is kept or it is better": the repair `trail` at the price `spent`, where `list` has the one that is kept
abbrev pub improves_on : List ℕ → List ℕ → ℕ → ℕ → Option ℕ → Bool
improves_on trail list spent limit None = true
improves_on trail list spent limit (Some pairs) =
    ltb spent limit || (eqb spent limit && smaller trail (take pairs list))

abbrev pub improves : List ℕ → List ℕ → ℕ → Tally → Bool
improves trail list spent t = improves_on trail list spent t.limit t.kept

-- ".. and set the limit to the kept price"
pub record Kept (trail list after : List ℕ) (spent : ℕ) (t r : Tally) : Type 0 where
  pub same_steps : r.steps ≡ t.steps
  pub new_limit : r.limit ≡ pick (improves trail list spent t) spent t.limit
  pub new_kept : r.kept ≡ pick (improves trail list spent t) (Some (length trail)) t.kept
  pub new_list : after ≡ pick (improves trail list spent t) (trail ++ drop (length trail) list) list
