-- What is done with one pair is what the tree's run does with it: passed over, or entered. Assumes nothing.
use mathlib.Core.Path.{◌≡◌, sym, ap, ap₂, ◌∙◌, subst⁻¹}
use mathlib.Core.Logic.{◌⊎◌, inl, inr}
use mathlib.Core.Bool.{Bool, true, false, ◌&&◌}
use mathlib.Core.List.{List}
use mathlib.Core.Option.{Option}
use Prim.Native.Nat.{ℕ, ◌+◌, ◌≤◌, ◌<◌}
use native.Mathlib.Omega.{arith}
use borrow.Author.Tests.{ltb-true, leb-true, le-leb}
use lib.Dec.{leb, ltb}
use lib.ListN.{length, get_or}
use Rattle.bits.proofs.Truth.{which, and_left, and_right, and_off_left}
use Rattle.graph.specs.Price.{fixed}
use Rattle.walk.specs.Problem as problem
use Rattle.walk.specs.Walk.{opens}
use Rattle.walk.specs.Best.{best_of, limit_of}
use Rattle.walk.specs.Run.{Outcome, stopped, whole, next, run_if}
use Rattle.repair.specs.Better.{price}
use Rattle.repair.specs.Tree.{Node, order, free, add, tree}
use Rattle.repair.proofs.Instance.{count_add}
use Rattle.memory.specs.declared.Tally.{Tally}
use Rattle.memory.specs.Table.{Place, number_at}
use Rattle.search.specs.Memory.{At, Same, Follows}
use Rattle.search.specs.Steps.{runs, left, tried}
use Rattle.search.proofs.States.{at_free, at_toll}

-- the test of a pair that costs c
abbrev pub enters : ℕ → ℕ → ℕ → Tally → Bool
enters most c spent t = leb t.steps most && (ltb c fixed && leb (spent + c) t.limit)

-- what an entered pair is
pub record Opened (most c spent : ℕ) (t : Tally) : Type 0 where
  pub running : t.steps ≤ most
  pub costs : c < fixed
  pub affordable : spent + c ≤ t.limit

pub opened : (most c spent : ℕ) (t : Tally) → enters most c spent t ≡ true → Opened most c spent t
opened most c spent t on =
    let both = and_right (leb t.steps most) _ on in
    record {
      running = leb-true t.steps most (and_left (leb t.steps most) _ on);
      costs = ltb-true c fixed (and_left (ltb c fixed) _ both);
      affordable = leb-true (spent + c) t.limit (and_right (ltb c fixed) _ both);
    }

module _
    {n : ℕ} {e : ℕ → ℕ → Bool} {toll : ℕ → ℕ} {s : Node} {words cost path : List ℕ} {spent : ℕ}
    (prune : Bool) (k most f p : ℕ) (t : Tally) (list : List ℕ)
    (at : At n e toll s words cost path spent)
    (few : n ≤ 128)
    (place : Place n p)
    (fits : p < length cost)
  where
    abbrev x : ℕ
    x = number_at n p

    abbrev test : problem.Tally (Option (List ℕ)) → Bool
    test u = opens (tree n e toll) (best_of (order toll) k) s x u.kept

    -- the tree's test is the test on the table
    test_read :
        (u : problem.Tally (Option (List ℕ))) → Same toll k most u t list →
        test u ≡ (ltb (get_or cost p 0) fixed && leb (spent + get_or cost p 0) t.limit)
    unfolding opens
    test_read u same = go (which (free n toll s x))
      where
        go :
            (free n toll s x ≡ true) ⊎ (free n toll s x ≡ false) →
            (free n toll s x && leb (price toll s.path + toll x) (limit_of (order toll) k u.kept)) ≡
            (ltb (get_or cost p 0) fixed && leb (spent + get_or cost p 0) t.limit)
        go (inl f) =
            ap₂ (λ a b. a && b) (at_free at p few place fits)
            (ap₂ leb (ap₂ ◌+◌ (sym at.price) (at_toll at p few place fits f)) (sym same.limit))
        go (inr f) =
            and_off_left _ f ∙ sym (and_off_left _ (sym (at_free at p few place fits) ∙ f))

    pub way_shut :
        (o : Outcome (Option (List ℕ))) → enters most (get_or cost p 0) spent t ≡ false → Follows toll k most o t list →
        Follows toll k most (tried n e toll prune k most f s x o) t list
    unfolding next run_if
    way_shut (stopped m) shut follows = follows
    way_shut (whole u) shut same =
        subst⁻¹ (λ z. Follows toll k most z t list) (ap (λ b. run_if b (runs n e toll prune k most f (add s x)) u) no) same
      where
        no : test u ≡ false
        no =
            test_read u same ∙
            sym (ap (λ b. b && (ltb (get_or cost p 0) fixed && leb (spent + get_or cost p 0) t.limit)) (le-leb t.steps most same.within)) ∙
            shut

    pub way_open :
        (o : Outcome (Option (List ℕ))) (r : Tally) (after : List ℕ) → left n toll s ≤ f →
        enters most (get_or cost p 0) spent t ≡ true → Follows toll k most o t list →
        ((u : problem.Tally (Option (List ℕ))) → left n toll (add s x) < f → Same toll k most u t list →
        Follows toll k most (runs n e toll prune k most f (add s x) u) r after) →
        Follows toll k most (tried n e toll prune k most f s x o) r after
    unfolding next run_if
    way_open (stopped m) r after fuel on follows searched =
        absurd (omega (arith, leb-true t.steps most (and_left (leb t.steps most) _ on)))
    way_open (whole u) r after fuel on same searched =
        subst⁻¹ (λ z. Follows toll k most z r after) (ap (λ b. run_if b (runs n e toll prune k most f (add s x)) u) yes)
        (searched u (omega (arith, count_add n e toll s x is_free_lem)) same)
      where
        both : (ltb (get_or cost p 0) fixed && leb (spent + get_or cost p 0) t.limit) ≡ true
        both = and_right (leb t.steps most) _ on

        yes : test u ≡ true
        yes = test_read u same ∙ both

        is_free_lem : free n toll s x ≡ true
        is_free_lem = at_free at p few place fits ∙ and_left (ltb (get_or cost p 0) fixed) _ both
