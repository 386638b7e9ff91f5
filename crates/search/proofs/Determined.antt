-- An engine's promise determines its answer and what the lent list holds afterwards: two that it allows for the same input
-- are equal. The refusal decides first, then the size of the tree, then the one best repair. Assumes nothing.
use mathlib.Core.Path.{◌≡◌, sym, ap, ◌∙◌}
use mathlib.Core.Bool.{Bool, true, false}
use mathlib.Core.List.{List, ◌++◌}
use mathlib.Core.Option.{Option, none, some}
use Prim.Native.Nat.{ℕ}
use native.Mathlib.Omega.{arith}
use lib.ListN.{length, drop}
use Rattle.std.specs.Prelude.{Result, Ok, Err}
use Rattle.graph.specs.declared.Refusal.{Refusal}
use Rattle.graph.proofs.Leading.{fault_not_fine}
use Rattle.walk.specs.Best.{IsBest}
use Rattle.walk.proofs.Single.{best_only}
use Rattle.repair.specs.Better.{price}
use Rattle.repair.specs.Repair.{Repair, toll_of}
use Rattle.repair.specs.Tree.{order}
use Rattle.repair.proofs.Instance.{ordered}
use Rattle.graph.specs.Graph.{edge}
use Rattle.graph.specs.Refusal.{refusal}
use Rattle.search.specs.declared.Answer.{Answer}
use Rattle.search.specs.declared.Answer.TheVariants.{Stopped, Nothing, Repaired}
use Rattle.search.specs.Answer.{Over, None, Best, Answered, Meant, Promise}

-- an answer with the list it leaves
abbrev Equal : (r s : Result Answer Refusal) (a b : List ℕ) → Type 0
Equal r s a b = (r ≡ s) × (a ≡ b)

module _ (prune : Bool) (n : ℕ) (e : ℕ → ℕ → Bool) (toll : ℕ → ℕ) (k most : ℕ) (list : List ℕ) where
  abbrev OverOf : ℕ → List ℕ → Type 0
  OverOf = Over prune n e toll k most list

  abbrev NoneOf : ℕ → List ℕ → Type 0
  NoneOf = None prune n e toll k most list

  abbrev BestOf : ℕ → ℕ → ℕ → List ℕ → Type 0
  BestOf = Best prune n e toll k most list

  -- one best repair, or none
  only : (x y : Option (List ℕ)) → IsBest (order toll) k (Repair n e toll) x → IsBest (order toll) k (Repair n e toll) y → x ≡ y
  only x y = best_only (ordered toll) k (Repair n e toll) x y

  same_repair_lem : (r s : List ℕ) → some r ≡ some s → r ≡ s
  same_repair_lem r s h = cc

  some_none : (r : List ℕ) → some r ≡ none → ⊥
  some_none r h = let z : ◌≡◌ {A = ℕ} 0 1 = cc in omega arith

  overs : {s t : ℕ} {a b : List ℕ} → OverOf s a → OverOf t b → Equal (Ok (Stopped s)) (Ok (Stopped t)) a b
  overs x y = (ap (λ m. Ok (Stopped m)) (x.limit ∙ sym y.limit), x.unchanged ∙ sym y.unchanged)

  nones : {s t : ℕ} {a b : List ℕ} → NoneOf s a → NoneOf t b → Equal (Ok (Nothing s)) (Ok (Nothing t)) a b
  nones x y = (ap (λ m. Ok (Nothing m)) (x.counted ∙ sym y.counted), x.unchanged ∙ sym y.unchanged)

  bests :
      {c d m l s t : ℕ} {a b : List ℕ} → BestOf c m s a → BestOf d l t b → Equal (Ok (Repaired c m s)) (Ok (Repaired d l t)) a b
  bests x y =
      let same = same_repair_lem x.repair y.repair (only (some x.repair) (some y.repair) x.best y.best) in
      let price_same = x.paid ∙ ap (price toll) same ∙ sym y.paid in
      let many_same = x.many ∙ ap length same ∙ sym y.many in
      let steps_same = x.counted ∙ sym y.counted in
      (cc, x.written ∙ ap (λ r. r ++ drop (length r) list) same ∙ sym y.written)

  -- the same answer where both searched
  searched :
      (r s : Answer) (a b : List ℕ) → Answered prune n e toll k most list r a → Answered prune n e toll k most list s b →
      Equal (Ok r) (Ok s) a b
  searched (Stopped s) (Stopped t) a b x y = overs x y
  searched (Stopped s) (Nothing t) a b x y = absurd (omega (arith, x.more, y.within))
  searched (Stopped s) (Repaired c m t) a b x y = absurd (omega (arith, x.more, y.within))
  searched (Nothing s) (Stopped t) a b x y = absurd (omega (arith, x.within, y.more))
  searched (Nothing s) (Nothing t) a b x y = nones x y
  searched (Nothing s) (Repaired c m t) a b x y =
      absurd (some_none y.repair (only (some y.repair) none y.best x.best))
  searched (Repaired c m s) (Stopped t) a b x y = absurd (omega (arith, x.within, y.more))
  searched (Repaired c m s) (Nothing t) a b x y =
      absurd (some_none x.repair (only (some x.repair) none x.best y.best))
  searched (Repaired c m s) (Repaired d l t) a b x y = bests x y

  -- the same refusal, or both searched
  determined :
      (r s : Result Answer Refusal) (a b : List ℕ) → refusal r ≡ refusal s → Meant prune n e toll k most list r a →
      Meant prune n e toll k most list s b → Equal r s a b
  determined (Err r) (Err s) a b same x y = (cc, x ∙ sym y)
  determined (Err r) (Ok s) a b same x y = absurd (fault_not_fine same)
  determined (Ok r) (Err s) a b same x y = absurd (fault_not_fine (sym same))
  determined (Ok r) (Ok s) a b same x y = searched r s a b x y

-- "Every public function's contract determines its answer and the final content of all memory lent to it"
pub engine_determined :
    (prune : Bool) (n : ℕ) (g ps : List ℕ) (k most : ℕ) (list : List ℕ) (r s : Result Answer Refusal) (a b : List ℕ) →
    Promise prune n g ps k most list r a → Promise prune n g ps k most list s b → (r ≡ s) × (a ≡ b)
engine_determined prune n g ps k most list r s a b x y =
    determined prune n (edge n g) (toll_of ps) k most list r s a b (x.refused ∙ sym y.refused) x.meant y.meant

-- for either engine
pub plain_determined :
    (n : ℕ) (g ps : List ℕ) (k most : ℕ) (list : List ℕ) (r s : Result Answer Refusal) (a b : List ℕ) →
    Promise false n g ps k most list r a → Promise false n g ps k most list s b → (r ≡ s) × (a ≡ b)
plain_determined = engine_determined false

pub pruned_determined :
    (n : ℕ) (g ps : List ℕ) (k most : ℕ) (list : List ℕ) (r s : Result Answer Refusal) (a b : List ℕ) →
    Promise true n g ps k most list r a → Promise true n g ps k most list s b → (r ≡ s) × (a ≡ b)
pruned_determined = engine_determined true
