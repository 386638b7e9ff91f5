-- S3: what `to_graph` writes passes the checks 3, 4 and 6, and no pair is fixed. Assumes nothing.
use mathlib.Core.Path.{◌≡◌, sym, ◌∙◌, ap, ap₂}
use mathlib.Core.Logic.{◌⊎◌, inl, inr, ◌≢◌}
use mathlib.Core.Bool.{Bool, true, false}
use mathlib.Core.List.{List, ◌++◌}
use Prim.Native.Nat.{ℕ, ◌+◌, ◌*◌, ◌≤◌, ◌<◌}
use native.Mathlib.Omega.{arith}
use lib.ListN.{length, get_or, drop, get_or-append}
use lib.IntN.{ℤ}
use lib.Dec.{eqb}
use borrow.Author.Tests.{eq-eqb, eqb-false, eqb-true, le-leb, ne_eqb}
use Rattle.bits.specs.Choice.{pick}
use Rattle.bits.proofs.Truth.{which, equal, and_in, or_left, pick_true, pick_false}
use Rattle.std.specs.Prelude.{Ok, Err}
use Rattle.graph.specs.declared.Refusal.TheVariants.{BadPrice}
use Rattle.graph.specs.Check.{entry, entries}
use Rattle.graph.specs.Price as rule
use Rattle.graph.proofs.CheckLaws.{inside}
use Rattle.graph.proofs.Grid.{fine_grid}
use Rattle.graph.proofs.Reading.{small_good, entry_fine, fine_entries}
use Rattle.scores.specs.Scale.{on_scale, edge_of, price_of, score_of, scores_off, edge_byte, price_entry, square}
use Rattle.scores.specs.Drawing.{Promise}
use Rattle.scores.proofs.ScoreFaults.{score_mirror, scores_on}
use Rattle.scores.proofs.Drawings.{promised}
use Rattle.scores.proofs.Squares.{length_square, square_at}
use Rattle.scores.proofs.OnScale.{price_bounds}
use Rattle.scores.proofs.Entries.{edge_diagonal, price_diagonal}

-- an entry of a list that begins with a matrix
entry_is :
    (n : ℕ) (f : ℕ → ℕ → ℕ) (old : List ℕ) {now : List ℕ} → n ≤ 128 → now ≡ square n f ++ drop (n * n) old → (i j : ℕ) → i < n → j < n →
    get_or now (i * n + j) 0 ≡ f i j
entry_is n f old few e i j hi hj =
    let at : i * n + j < length (square n f) = omega (arith, (inside few hi hj).0, length_square n f) in
    ap (λ l. get_or l (i * n + j) 0) e
    ∙ get_or-append (square n f) (drop (n * n) old) 0 (i * n + j) at
    ∙ square_at n f i j hi hj

module _ (n : ℕ) (t : ℤ) (scores : List ℤ) where
  edge_small : (i j : ℕ) → edge_byte n t scores i j ≤ 1
  unfolding edge_byte
  edge_small i j = go (eqb i j) (edge_of (score_of n scores i j) t)
    where
      go : (a b : Bool) → pick a 0 (pick b 1 0) ≤ 1
      go true b = omega arith
      go false true = omega arith
      go false false = omega arith

  edge_mirror : (i j : ℕ) → i ≢ j → edge_byte n t scores i j ≡ edge_byte n t scores j i
  unfolding edge_byte
  edge_mirror i j apart =
      pick_false 0 (pick (edge_of (score_of n scores i j) t) 1 0) (ne_eqb i j apart)
      ∙ ap (λ z. pick (edge_of z t) 1 0) (score_mirror n scores i j apart)
      ∙ sym (pick_false 0 (pick (edge_of (score_of n scores j i) t) 1 0) (ne_eqb j i (λ e. apart (sym e))))

  price_mirror : (i j : ℕ) → i ≢ j → price_entry n t scores i j ≡ price_entry n t scores j i
  unfolding price_entry
  price_mirror i j apart =
      pick_false 0 (price_of (score_of n scores i j) t) (ne_eqb i j apart)
      ∙ ap (λ z. price_of z t) (score_mirror n scores i j apart)
      ∙ sym (pick_false 0 (price_of (score_of n scores j i) t) (ne_eqb j i (λ e. apart (sym e))))

  price_small :
      (i j : ℕ) → i ≢ j → i < n → j < n → on_scale t ≡ true → Ok tt ≡ scores_off n scores →
      (1 ≤ price_entry n t scores i j) × (price_entry n t scores i j ≤ 10000)
  unfolding price_entry
  price_small i j apart hi hj on fine =
      let e : price_entry n t scores i j ≡ price_of (score_of n scores i j) t =
      pick_false 0 (price_of (score_of n scores i j) t) (ne_eqb i j apart) in
      let b = price_bounds (score_of n scores i j) t (scores_on n scores i j apart hi hj fine) on in
      (omega arith, omega arith)

  module _ (graph prices : List ℕ) {graph' prices' : List ℕ} (all : Promise n t scores graph prices (Ok tt) graph' prices') where
    few : n ≤ 128
    few = (promised n t scores graph prices all.refused).0

    edge_at : (i j : ℕ) → i < n → j < n → get_or graph' (i * n + j) 0 ≡ edge_byte n t scores i j
    edge_at = entry_is n (edge_byte n t scores) graph few all.meant.0

    price_at : (i j : ℕ) → i < n → j < n → get_or prices' (i * n + j) 0 ≡ price_entry n t scores i j
    price_at = entry_is n (price_entry n t scores) prices few all.meant.1

    -- every price off the diagonal is 1 to 10,000: none is fixed
    pub prices_free : (i j : ℕ) → i ≢ j → i < n → j < n → (1 ≤ get_or prices' (i * n + j) 0) × (get_or prices' (i * n + j) 0 ≤ 10000)
    prices_free i j apart hi hj =
        let ok = promised n t scores graph prices all.refused in
        let b = price_small i j apart hi hj ok.2 ok.3 in
        let e = price_at i j hi hj in
        (omega arith, omega arith)

    edge_mirrors : (i j : ℕ) → edge_byte n t scores i j ≡ edge_byte n t scores j i
    edge_mirrors i j = go (equal i j)
      where
        go : (i ≡ j) ⊎ (i ≢ j) → edge_byte n t scores i j ≡ edge_byte n t scores j i
        go (inl e) = ap₂ (edge_byte n t scores) e (sym e)
        go (inr apart) = edge_mirror i j apart

    edge_fine : (i j : ℕ) → i < n → j < n → entry n graph' i j ≡ Ok tt
    edge_fine i j hi hj =
        entry_fine n graph' i j
        (small_good n graph' i j (omega (arith, edge_at i j hi hj, edge_small i j)) (λ e.
        edge_at i j hi hj ∙ sym (edge_diagonal n t scores i j e)))
        (edge_at i j hi hj ∙ edge_mirrors i j ∙ sym (edge_at j i hj hi))

    -- the checks 3 and 4
    pub graph_passes : entries n graph' ≡ Ok tt
    graph_passes = fine_entries n graph' edge_fine

    price_fine : (i j : ℕ) → i < n → j < n → rule.price_entry n prices' i j ≡ Ok tt
    unfolding rule.price_entry rule.priced
    price_fine i j hi hj = go (which (eqb i j))
      where
        go : (eqb i j ≡ true) ⊎ (eqb i j ≡ false) → rule.price_entry n prices' i j ≡ Ok tt
        go (inl p) =
            let e = eqb-true i j p in
            let zero_price : get_or prices' (i * n + j) 0 ≡ 0 = price_at i j hi hj ∙ sym (price_diagonal n t scores i j e) in
            let mirror : get_or prices' (i * n + j) 0 ≡ get_or prices' (j * n + i) 0 = cc in
            (pick_true (Ok tt) (Err (BadPrice i j))
            (and_in (pick_true _ _ p ∙ eq-eqb _ _ zero_price) (eq-eqb _ _ mirror)))
        go (inr p) =
            let apart : i ≢ j = eqb-false i j p in
            let b = prices_free i j apart hi hj in
            let mirror = price_at i j hi hj ∙ price_mirror i j apart ∙ sym (price_at j i hj hi) in
            pick_true (Ok tt) (Err (BadPrice i j))
            (and_in (pick_false _ _ p ∙ or_left _ (and_in (le-leb _ _ b.0) (le-leb _ _ b.1))) (eq-eqb _ _ mirror))

    -- the check 6
    pub prices_pass : rule.price_entries n prices' ≡ Ok tt
    unfolding rule.price_entries
    prices_pass = fine_grid n (rule.price_entry n prices') price_fine
