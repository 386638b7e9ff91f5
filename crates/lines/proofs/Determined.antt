-- The promise of `report` settles the answer and the text: two answers that it allows for one input are equal, and so is what
-- they leave. The best repair is unique, so a sheet has one page. Assumes nothing.
use mathlib.Core.Path.{◌≡◌, sym, ◌∙◌, ap, subst}
use mathlib.Core.Logic.{inl, inr}
use mathlib.Core.Bool.{Bool}
use mathlib.Core.List.{List, [], ◌∷◌}
use Prim.Native.Nat.{ℕ}
use native.Mathlib.Omega.{arith}
use lib.ListN.{length}
use Rattle.std.specs.Prelude.{Result, Ok, Err}
use Rattle.graph.specs.declared.Refusal.{Refusal}
use Rattle.graph.specs.Refusal.{Finding, first_of, refusal}
use Rattle.graph.specs.Check.{too_short}
use Rattle.repair.proofs.Orders.{better_total}
use Rattle.lines.specs.Report.{Searched, Mended, page_of, Said, Lines, fault, Meant, Promise}

module _ (n : ℕ) (e : ℕ → ℕ → Bool) (toll : ℕ → ℕ) where
  same_repair_lem : {a b : List ℕ} (x : Mended n e toll a) (y : Mended n e toll b) → x.repair ≡ y.repair
  same_repair_lem x y =
      better_total toll x.repair y.repair (y.best.unbeaten x.repair x.best.member)
      (x.best.unbeaten y.repair y.best.member)

  same_search : {a b : List ℕ} → Searched n e toll a → Searched n e toll b → a ≡ b
  same_search (inl x) (inl y) = x.line ∙ sym y.line
  same_search (inl x) (inr y) = absurd (let m = x.over in let w = y.within in omega arith)
  same_search (inr x) (inl y) = absurd (let m = y.over in let w = x.within in omega arith)
  same_search (inr x) (inr y) = x.lines ∙ ap (page_of n e toll) (same_repair_lem x y) ∙ sym y.lines

-- a sheet has one page
pub lines_determined : (sheet : List ℕ) {a b : List ℕ} → Lines sheet a → Lines sheet b → a ≡ b
lines_determined sheet {a} {b} = go (fault sheet)
  where
    go : (x : Finding) → Said sheet x a → Said sheet x b → a ≡ b
    go (Ok done) p q = same_search _ _ _ p q
    go (Err r) p q = p ∙ sym q

module _ (sheet text : List ℕ) where
  same_answer :
      (lines : List ℕ) (r q : Result ℕ Refusal) {x y : List ℕ} → refusal r ≡ refusal q → Meant lines text r x → Meant lines text q y →
      (r ≡ q) × (x ≡ y)
  same_answer lines (Err r) (Err q) e a b = (cc, a ∙ sym b)
  same_answer lines (Err r) (Ok s) e a b = absurd (let z : ◌≡◌ {A = ℕ} 0 1 = cc in omega arith)
  same_answer lines (Ok s) (Err r) e a b = absurd (let z : ◌≡◌ {A = ℕ} 0 1 = cc in omega arith)
  same_answer lines (Ok s) (Ok s') e a b =
      let same : s ≡ s' = a.0 ∙ sym b.0 in
      (ap Ok same, rw same at a.1 ∙ sym b.1)

  pub report_determined :
      {r q : Result ℕ Refusal} {x y : List ℕ} → Promise sheet text r x → Promise sheet text q y → (r ≡ q) × (x ≡ y)
  report_determined {r} {q} {x} {y} a b =
      let same = lines_determined sheet a.right b.right in
      same_answer a.lines r q
      (a.refused ∙ ap (λ l. first_of (too_short text (length l) ∷ [])) same ∙ sym b.refused) a.meant
      (subst (λ l. Meant l text q y) (sym same) b.meant)
