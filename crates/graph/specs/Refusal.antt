-- "Numbers returned", for every call: what a check finds, and the first of a call's checks that finds something. Assumes nothing.
use Rattle.std.specs.Prelude.{ℕ, Bool, List, [], ◌∷◌, Result, Ok, Err}
use Rattle.bits.specs.Choice.{pick}
use Rattle.graph.specs.declared.Refusal.{Refusal}
use Rattle.graph.specs.declared.Refusal.TheVariants.{
  TooManyVertices,
  WrongLength,
  BadEntry,
  Lopsided,
  OffScale,
  BadPrice,
  BudgetTooLarge,
  NoRoom,
  BadSheet,
}

-- what a check finds: nothing, or why the call is refused
abbrev pub Finding : Type 0
Finding = Result Unit Refusal

-- the table's number of a refusal
abbrev pub number : Refusal → ℕ
number TooManyVertices = 1
number WrongLength = 2
number (BadEntry i j) = 3
number (Lopsided i j) = 4
number (OffScale i j) = 5
number (BadPrice i j) = 6
number BudgetTooLarge = 7
number NoRoom = 10
number BadSheet = 11

-- "3 to 6 give row and column .. Every other answer has place (0, 0)."
abbrev pub row_at : Refusal → ℕ
row_at TooManyVertices = 0
row_at WrongLength = 0
row_at (BadEntry i j) = i
row_at (Lopsided i j) = i
row_at (OffScale i j) = i
row_at (BadPrice i j) = i
row_at BudgetTooLarge = 0
row_at NoRoom = 0
row_at BadSheet = 0

abbrev pub column_at : Refusal → ℕ
column_at TooManyVertices = 0
column_at WrongLength = 0
column_at (BadEntry i j) = j
column_at (Lopsided i j) = j
column_at (OffScale i j) = j
column_at (BadPrice i j) = j
column_at BudgetTooLarge = 0
column_at NoRoom = 0
column_at BadSheet = 0

-- the row of the table that a refusal stands for, where it holds
unfoldable pub row : Refusal → Bool → Finding
row r holds = pick holds (Err r) (Ok tt)

-- the finding x, or y where x found nothing
abbrev pub or_else : Finding → Finding → Finding
or_else (Ok done) y = y
or_else (Err r) y = Err r

-- "A number is given exactly when its row holds and no number earlier in the call's order does": of the checks in the
-- call's order, what the first one says that finds something
unfoldable pub first_of : List Finding → Finding
first_of [] = Ok tt
first_of (x ∷ xs) = or_else x (first_of xs)

-- what a call's answer says of the checks: it is refused, or it passed them all
abbrev pub refusal : {A : Type 0} → Result A Refusal → Finding
refusal (Ok answer) = Ok tt
refusal (Err r) = Err r

-- this paper's number and place of a finding; 0 is "done"
abbrev pub number_of : Finding → ℕ
number_of (Ok done) = 0
number_of (Err r) = number r

abbrev pub row_of : Finding → ℕ
row_of (Ok done) = 0
row_of (Err r) = row_at r

abbrev pub column_of : Finding → ℕ
column_of (Ok done) = 0
column_of (Err r) = column_at r
