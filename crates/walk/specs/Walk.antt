-- The search tree, walked to its end. Only `walk` calls itself, by fuel: any fuel above the number of free ways gives
-- the same walk (`fuel_enough` in proofs/Promises). Assumes nothing.
use Rattle.std.specs.Prelude.{ℕ, zero, suc, ◌+◌, ◌^◌, Bool, true, false, ◌&&◌, List, [], ◌∷◌, leb}
use Rattle.walk.specs.Problem.{Problem, Keeper, Tally}

-- "Entering a node is one step."
unfoldable pub entered : {Kept : Type 0} → Tally Kept → Tally Kept
entered t = record { steps = suc t.steps; kept = t.kept }

-- go on where the test passes, else leave the tally
unfoldable pub only_if : {Kept : Type 0} → Bool → (Tally Kept → Tally Kept) → Tally Kept → Tally Kept
only_if true go t = go t
only_if false go t = t

module _ (p : Problem) (q : Keeper p.Answer) where
  -- a search below a node
  abbrev pub Search : Type 0
  Search = p.Node → Tally q.Kept → Tally q.Kept

  -- "no quad: it is a repair; keep it if none is kept or it is better"
  unfoldable pub found : Search
  found s t = record { steps = t.steps; kept = q.keep t.kept (p.answer s) }

  -- "if the pair is free and price plus its price is at most the present limit"
  unfoldable pub opens : p.Node → p.Way → q.Kept → Bool
  opens s w x = p.free s w && leb (p.spent s + p.toll w) (q.limit x)

  -- ".. toggle and mark it, search that node, and toggle back. The pair, tried or not, is marked for the rest of this node."
  unfoldable pub tries : Search → p.Node → List p.Way → Tally q.Kept → Tally q.Kept
  tries rec s [] t = t
  tries rec s (w ∷ ws) t = tries rec (p.mark s w) ws (only_if (opens s w t.kept) (rec (p.add s w)) t)

  -- "The pruned engine leaves the node if price plus packing bound exceeds the limit. Then go through .."
  unfoldable pub branch : Bool → Search → Search
  branch true rec s t = t
  branch false rec s t = tries rec s (p.ways s) t

  module _ (cut : p.Node → ℕ → Bool) where
    -- "no quad: it is a repair"; "a quad: take the first"
    unfoldable pub visit : Bool → Search → Search
    visit true rec s t = found s t
    visit false rec s t = branch (cut s (q.limit t.kept)) rec s t

    -- "Entering a node is one step. At a node:"
    unfoldable pub node : Search → Search
    node rec s t = visit (p.done s) rec s (entered t)

    -- "The tree is walked by a procedure that calls itself at each node."
    unfoldable pub walk : ℕ → Search
    walk zero s t = t
    walk (suc f) s t = node (walk f) s t

-- at the root no step is counted and nothing kept
abbrev pub begin : {Answer : Type 0} (q : Keeper Answer) → Tally q.Kept
begin q = record { steps = 0; kept = q.empty }

-- "Both engines, plain and pruned": the plain one leaves no node early
unfoldable pub plain : (p : Problem) → p.Node → ℕ → Bool
plain p s limit = false

-- "1 + 6 + .. + 6^d": the nodes of a tree with b ways at each and d levels below the root
unfoldable pub geo : ℕ → ℕ → ℕ
geo b zero = 1
geo b (suc d) = geo b d + b ^ suc d
