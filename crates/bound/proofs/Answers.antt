-- The refusals of `bound` in its order, and that its promise determines the answer. Assumes nothing.
use mathlib.Core.Path.{◌≡◌, refl, sym, ◌∙◌, ap}
use mathlib.Core.Logic.{◌⊎◌, inl, inr, ◌≢◌}
use mathlib.Core.Bool.{true, false}
use mathlib.Core.List.{List, [], ◌∷◌}
use Prim.Native.Nat.{ℕ, ◌*◌, ◌≤◌, ◌<◌}
use native.Mathlib.Omega.{arith}
use lib.ListN.{length}
use lib.Dec.{leb}
use borrow.Author.Tests.{lt-ltb, le-ltb, eq-eqb, ne_eqb, leb-false}
use Rattle.bits.specs.Choice.{pick}
use Rattle.bits.proofs.Truth.{which, not_in, not_off, pick_true, pick_false}
use Rattle.std.specs.Prelude.{Result, Ok, Err}
use Rattle.graph.specs.declared.Refusal.{Refusal}
use Rattle.graph.specs.declared.Refusal.TheVariants.{TooManyVertices, WrongLength}
use Rattle.graph.specs.Refusal.{first_of, refusal}
use Rattle.graph.specs.Check.{too_many, wrong_length, entries}
use Rattle.graph.specs.Price.{price_entries}
use Rattle.graph.specs.Graph.{IsGraph, edge, word_edge}
use Rattle.graph.specs.Quad.{quads}
use Rattle.graph.proofs.Leading.{fault_not_fine}
use Rattle.graph.proofs.Reading.{entries_graph}
use Rattle.graph.proofs.Refusals.{first_of_next, first_of_here, row_holds, row_passes}
use Rattle.repair.specs.Pair.{changeable}
use Rattle.repair.specs.Repair.{toll_of}
use Rattle.repair.specs.Packing.{hopeless, packing}
use Rattle.bound.specs.Table.{bound_of}
use Rattle.bound.specs.Costs.{Costs}
use Rattle.bound.specs.Answer.{checks, packing_of, Meant, Promise}
use Rattle.bound.proofs.Alike.{packing_made}
use Rattle.bound.proofs.Exact.{bounded_fits}

module _ (n : ℕ) (g prices : List ℕ) where
  pub refuses : {r : Refusal} → first_of (checks n g prices) ≡ Err r → Promise n g prices (Err r)
  refuses h = record { refused = sym h; meant = tt }

  pub many_refused : 128 < n → first_of (checks n g prices) ≡ Err TooManyVertices
  unfolding checks too_many
  many_refused h = first_of_here _ _ (row_holds TooManyVertices (lt-ltb 128 n h))

  few_passes : n ≤ 128 → too_many n ≡ Ok tt
  unfolding too_many
  few_passes h = row_passes TooManyVertices (le-ltb 128 n h)

  length_refused : (xs : List ℕ) → length xs ≢ n * n → wrong_length xs (n * n) ≡ Err WrongLength
  unfolding wrong_length
  length_refused xs d = row_holds WrongLength (not_in (ne_eqb (length xs) (n * n) d))

  length_passes : (xs : List ℕ) → length xs ≡ n * n → wrong_length xs (n * n) ≡ Ok tt
  unfolding wrong_length
  length_passes xs e = row_passes WrongLength (not_off (eq-eqb (length xs) (n * n) e))

  module _ (few : n ≤ 128) where
    pub graph_refused : length g ≢ n * n → first_of (checks n g prices) ≡ Err WrongLength
    unfolding checks
    graph_refused d = first_of_next _ _ (few_passes few) ∙ first_of_here _ _ (length_refused g d)

    module _ (g-long : length g ≡ n * n) where
      pub prices_refused : length prices ≢ n * n → first_of (checks n g prices) ≡ Err WrongLength
      unfolding checks
      prices_refused d =
          first_of_next _ _ (few_passes few) ∙ first_of_next _ _ (length_passes g g-long) ∙
          first_of_here _ _ (length_refused prices d)

      module _ (p-long : length prices ≡ n * n) where
        to_entries : first_of (checks n g prices) ≡ first_of (entries n g ∷ price_entries n prices ∷ [])
        unfolding checks
        to_entries =
            first_of_next _ _ (few_passes few) ∙ first_of_next _ _ (length_passes g g-long) ∙
            first_of_next _ _ (length_passes prices p-long)

        pub entries_refused : {r : Refusal} → entries n g ≡ Err r → first_of (checks n g prices) ≡ Err r
        entries_refused h = to_entries ∙ first_of_here _ _ h

        module _ (ok : entries n g ≡ Ok tt) where
          pub priced_refused : {r : Refusal} → price_entries n prices ≡ Err r → first_of (checks n g prices) ≡ Err r
          priced_refused h = to_entries ∙ first_of_next _ _ ok ∙ first_of_here _ _ h

          pub all_pass : price_entries n prices ≡ Ok tt → {bound : ℕ} → bound ≡ packing_of n g prices → Promise n g prices (Ok bound)
          all_pass h e =
              record { refused = sym (to_entries ∙ first_of_next _ _ ok ∙ first_of_next _ _ h ∙ none); meant = e }
            where
              none : first_of [] ≡ Ok tt
              none = unfold first_of in refl

-- the words of a checked graph are a graph
pub words_graph : (n : ℕ) (g words : List ℕ) → word_edge words ≡ edge n g → entries n g ≡ Ok tt → IsGraph n (word_edge words)
words_graph n g words e ok = rw e (entries_graph n g ok)

-- with the greatest room the walk gives the bound of the graph and the prices
pub whole_bound :
    (n : ℕ) → n ≤ 128 → (g prices words cost : List ℕ) {r : ℕ} → word_edge words ≡ edge n g → entries n g ≡ Ok tt →
    Costs n prices cost → price_entries n prices ≡ Ok tt →
    r ≡ pick (leb (bound_of n words cost) 4294967294) (bound_of n words cost) hopeless → r ≡ packing_of n g prices
whole_bound n few g prices words cost {r} e ok C ok' h =
    h ∙ go (which (leb (bound_of n words cost) 4294967294)) ∙ packing_made n few prices cost C ok' (word_edge words) ∙
    ap (λ f. packing n (changeable n (toll_of prices)) (toll_of prices) (quads n f)) e
  where
    go :
        (leb (bound_of n words cost) 4294967294 ≡ true) ⊎ (leb (bound_of n words cost) 4294967294 ≡ false) →
        pick (leb (bound_of n words cost) 4294967294) (bound_of n words cost) hopeless ≡ bound_of n words cost
    go (inl t) = pick_true (bound_of n words cost) hopeless t
    go (inr t) =
        let l = leb-false (bound_of n words cost) 4294967294 t in
        let m = bounded_fits n few (word_edge words) (words_graph n g words e ok) cost in
        let q : hopeless ≡ bound_of n words cost = omega arith in
        pick_false (bound_of n words cost) hopeless t ∙ q

-- two answers that the promise allows are equal
pub bound_determined : (n : ℕ) (g prices : List ℕ) {r s : Result ℕ Refusal} → Promise n g prices r → Promise n g prices s → r ≡ s
bound_determined n g prices {r} {s} x y = same r s (x.refused ∙ sym y.refused) x.meant y.meant
  where
    same : (r s : Result ℕ Refusal) → refusal r ≡ refusal s → Meant n g prices r → Meant n g prices s → r ≡ s
    same (Err k) (Err k') e p q = cc
    same (Err k) (Ok b) e p q = absurd (fault_not_fine e)
    same (Ok b) (Err k) e p q = absurd (fault_not_fine (sym e))
    same (Ok b) (Ok b') e p q = ap Ok (p ∙ sym q)
