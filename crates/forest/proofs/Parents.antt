-- What `last` finds under a total order, and so who the parent of a vertex is: the last of its neighbours that come before
-- it, and nobody else. By induction on the numbers looked at. Assumes nothing.
use mathlib.Core.Path.{◌≡◌, refl, sym, ◌∙◌, subst}
use mathlib.Core.Logic.{◌⊎◌, inl, inr, ◌≢◌}
use mathlib.Core.Bool.{Bool, true, false, ◌&&◌, ◌||◌}
use Prim.Native.Nat.{ℕ, zero, suc, ◌<◌, ◌≤◌}
use native.Mathlib.Omega.{arith}
use lib.Dec.{eqb}
use borrow.Author.Tests.{eq-eqb, ne_eqb}
use Rattle.graph.specs.Graph.{IsGraph}
use Rattle.bits.specs.Choice.{pick}
use Rattle.bits.proofs.Truth.{never, which, fails, and_in, and_left, and_right, and_off_left, and_off_right, or_left, or_right, or_off, pick_true, pick_false}
use Rattle.forest.specs.Order.{before, nobody, last, parent}
use Rattle.forest.proofs.Finite.{below_suc, equal_or_not}
use Rattle.forest.proofs.Orders.{before_asymmetric, before_transitive, before_total}

-- p is the last in the order of the numbers below k that pass the test, or nobody where none passes
pub data IsLast (order : ℕ → ℕ → Bool) (test : ℕ → Bool) (k p : ℕ) : Type 0 where
  none : p ≡ nobody → ((u : ℕ) → u < k → test u ≡ false) → IsLast order test k p
  found : p < k → test p ≡ true → ((u : ℕ) → u < k → test u ≡ true → u ≢ p → order u p ≡ true)
      → IsLast order test k p

module _ (order : ℕ → ℕ → Bool) (test : ℕ → Bool)
    (transitive : (u v w : ℕ) → order u v ≡ true → order v w ≡ true → order u w ≡ true)
    (total : (u v : ℕ) → u ≢ v → (order u v ≡ true) ⊎ (order v u ≡ true)) where
  -- one more number: it fails, or it comes before the last so far, which stays
  stays_failed : {k q : ℕ} → IsLast order test k q → test k ≡ false → IsLast order test (suc k) q
  stays_failed (none is nowhere) off = none is (below_suc (λ u. test u ≡ false) off nowhere)
  stays_failed {k} {q} (found low on others) off =
      found (omega arith) on
      (below_suc (λ u. test u ≡ true → u ≢ q → order u q ≡ true) (λ t. never t off) others)

  stays_earlier : {k q : ℕ} → IsLast order test k q → q ≢ nobody → order q k ≡ false → IsLast order test (suc k) q
  stays_earlier (none is nowhere) some early = absurd (some is)
  stays_earlier {k} {q} (found low on others) some early =
      found (omega arith) on
      (below_suc (λ u. test u ≡ true → u ≢ q → order u q ≡ true) (λ t apart. go (total k q apart)) others)
    where
      go : (order k q ≡ true) ⊎ (order q k ≡ true) → order k q ≡ true
      go (inl h) = h
      go (inr h) = never h early

  -- it passes, and there was none, or the last so far comes before it: it is the last
  moves_first : {k q : ℕ} → k ≤ nobody → IsLast order test k q → test k ≡ true → q ≡ nobody → IsLast order test (suc k) k
  moves_first {k} fits (none is nowhere) on nought =
      found (omega arith) on
      (below_suc (λ u. test u ≡ true → u ≢ k → order u k ≡ true) (λ t apart. absurd (apart refl))
      (λ u l t apart. never t (nowhere u l)))
  moves_first fits (found low on others) on' nought = absurd (omega arith)

  moves_later : {k q : ℕ} → IsLast order test k q → test k ≡ true → q ≢ nobody → order q k ≡ true
      → IsLast order test (suc k) k
  moves_later (none is nowhere) on some late = absurd (some is)
  moves_later {k} {q} (found low on others) on' some late =
      found (omega arith) on'
      (below_suc (λ u. test u ≡ true → u ≢ k → order u k ≡ true) (λ t apart. absurd (apart refl))
      (λ u l t apart. go u l t (equal_or_not u q)))
    where
      go : (u : ℕ) → u < k → test u ≡ true → (u ≡ q) ⊎ (u ≢ q) → order u k ≡ true
      go u l t (inl same) = subst (λ (x : ℕ). order x k ≡ true) (sym same) late
      go u l t (inr apart) = transitive u q k (others u l t apart) late

  step : (k q : ℕ) → k < nobody → IsLast order test k q
      → IsLast order test (suc k) (pick (test k && (eqb q nobody || order q k)) k q)
  step k q fits so_far = go (which (test k)) (equal_or_not q nobody) (which (order q k))
    where
      take : IsLast order test (suc k) k → (test k && (eqb q nobody || order q k)) ≡ true
          → IsLast order test (suc k) (pick (test k && (eqb q nobody || order q k)) k q)
      take done t = subst (IsLast order test (suc k)) (sym (pick_true k q t)) done

      keep : IsLast order test (suc k) q → (test k && (eqb q nobody || order q k)) ≡ false
          → IsLast order test (suc k) (pick (test k && (eqb q nobody || order q k)) k q)
      keep done t = subst (IsLast order test (suc k)) (sym (pick_false k q t)) done

      go : (test k ≡ true) ⊎ (test k ≡ false) → (q ≡ nobody) ⊎ (q ≢ nobody)
          → (order q k ≡ true) ⊎ (order q k ≡ false)
          → IsLast order test (suc k) (pick (test k && (eqb q nobody || order q k)) k q)
      go (inr off) s t = keep (stays_failed so_far off) (and_off_left (eqb q nobody || order q k) off)
      go (inl on) (inl nought) t =
          take (moves_first (omega arith) so_far on nought) (and_in on (or_left (order q k) (eq-eqb q nobody nought)))
      go (inl on) (inr some) (inl late) =
          take (moves_later so_far on some late) (and_in on (or_right (eqb q nobody) late))
      go (inl on) (inr some) (inr early) =
          keep (stays_earlier so_far some early) (and_off_right (test k) (or_off (ne_eqb q nobody some) early))

  pub last_is : (k : ℕ) → k ≤ nobody → IsLast order test k (last order test k)
  unfolding last
  last_is zero fits = none refl (λ u l. absurd (omega arith))
  last_is (suc k) fits = step k (last order test k) (omega arith) (last_is k (omega arith))

-- p is the parent of v: the last of its neighbours that come before it, or nobody where no neighbour comes before it
pub data IsParent (n : ℕ) (e : ℕ → ℕ → Bool) (v p : ℕ) : Type 0 where
  orphan : p ≡ nobody → ((u : ℕ) → e v u ≡ true → before n e u v ≡ false) → IsParent n e v p
  child : p < n → e v p ≡ true → before n e p v ≡ true
      → ((u : ℕ) → e v u ≡ true → before n e u v ≡ true → u ≢ p → before n e u p ≡ true) → IsParent n e v p

module _ (n : ℕ) (e : ℕ → ℕ → Bool) where
  -- at most one number is the parent of v
  pub same_parent : {v p q : ℕ} → IsParent n e v p → IsParent n e v q → p ≡ q
  same_parent (orphan is a) (orphan is' b) = is ∙ sym is'
  same_parent {q = q} (orphan is a) (child low near early b) = never early (a q near)
  same_parent {p = p} (child low near early a) (orphan is b) = never early (b p near)
  same_parent {v} {p} {q} (child low near early a) (child low' near' early' b) = go (equal_or_not p q)
    where
      go : (p ≡ q) ⊎ (p ≢ q) → p ≡ q
      go (inl same) = same
      go (inr apart) =
          absurd (before_asymmetric n e p q (b p near early apart) (a q near' early' (λ s. apart (sym s))))

  pub parent_is : IsGraph n e → n ≤ nobody → (v : ℕ) → IsParent n e v (parent n e v)
  unfolding parent
  parent_is graph fits v =
      go (last_is (before n e) (λ u. e v u && before n e u v) (before_transitive n e) (before_total n e) n fits)
    where
      go : {p : ℕ} → IsLast (before n e) (λ u. e v u && before n e u v) n p → IsParent n e v p
      go (none is nowhere) =
          orphan is (λ u near. fails (λ early. never (and_in near early) (nowhere u (graph.inside v u near).1)))
      go {p} (found low on others) =
          child low (and_left (e v p) (before n e p v) on) (and_right (e v p) (before n e p v) on)
          (λ u near early apart. others u (graph.inside v u near).1 (and_in near early) apart)

  -- whoever is the parent of v is the one that the order gives
  pub parent_unique : IsGraph n e → n ≤ nobody → {v p : ℕ} → IsParent n e v p → p ≡ parent n e v
  parent_unique graph fits {v} h = same_parent h (parent_is graph fits v)

  -- what is no vertex has no parent
  pub parent_outside : IsGraph n e → n ≤ nobody → (v : ℕ) → n ≤ v → parent n e v ≡ nobody
  parent_outside graph fits v out = sym (parent_unique graph fits (orphan refl (λ u near. absurd (inner u near))))
    where
      inner : (u : ℕ) → e v u ≡ true → ⊥
      inner u near = omega (arith, (graph.inside v u near).0)
