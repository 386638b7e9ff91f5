-- Every promise settles the answer and the memory: two answers that it allows for one input are equal, and so is what they
-- leave. Assumes nothing.
use mathlib.Core.Path.{◌≡◌, sym, ◌∙◌, subst}
use mathlib.Core.List.{List}
use Prim.Native.Nat.{ℕ}
use native.Mathlib.Omega.{arith}
use lib.IntN.{ℤ}
use Rattle.std.specs.Prelude.{Result, Ok, Err}
use Rattle.graph.specs.declared.Refusal.{Refusal}
use Rattle.graph.specs.Refusal.{Finding, refusal}
use Rattle.scores.specs.declared.Trailer.{Trailer}
use Rattle.scores.specs.Drawing as drawing
use Rattle.scores.specs.Reader as reader
use Rattle.scores.specs.Writer as writer

module _ (n : ℕ) (t : ℤ) (scores : List ℤ) (graph prices : List ℕ) where
  same_drawing :
      (r : Finding) {g₁ p₁ g₂ p₂ : List ℕ} → drawing.Meant n t scores graph prices r g₁ p₁ →
      drawing.Meant n t scores graph prices r g₂ p₂ → (g₁ ≡ g₂) × (p₁ ≡ p₂)
  same_drawing (Ok done) a b = (a.0 ∙ sym b.0, a.1 ∙ sym b.1)
  same_drawing (Err r) a b = (a.0 ∙ sym b.0, a.1 ∙ sym b.1)

  pub drawing_determined :
      {r q : Finding} {g₁ p₁ g₂ p₂ : List ℕ} → drawing.Promise n t scores graph prices r g₁ p₁ →
      drawing.Promise n t scores graph prices q g₂ p₂ → (r ≡ q) × (g₁ ≡ g₂) × (p₁ ≡ p₂)
  drawing_determined {r} {q} {g₁} {p₁} {g₂} {p₂} a b =
      let e : r ≡ q = a.refused ∙ sym b.refused in
      let m = same_drawing r a.meant (subst (λ (x : Finding). drawing.Meant n t scores graph prices x g₂ p₂) (sym e) b.meant) in
      (e, m.0, m.1)

module _ (sheet : List ℕ) (out : List ℤ) where
  same_reading :
      (r q : Result Trailer Refusal) {x y : List ℤ} → refusal r ≡ refusal q → reader.Meant sheet out r x →
      reader.Meant sheet out q y → (r ≡ q) × (x ≡ y)
  same_reading (Err k) (Err k') e a b = (cc, a ∙ sym b)
  same_reading (Err k) (Ok h) e a b = absurd (let z : ◌≡◌ {A = ℕ} 0 1 = cc in omega arith)
  same_reading (Ok h) (Err k) e a b = absurd (let z : ◌≡◌ {A = ℕ} 0 1 = cc in omega arith)
  same_reading (Ok h) (Ok h') e a b =
      let p = a.behind ∙ sym b.behind in
      let n = a.size ∙ sym b.size in
      let t = a.threshold ∙ sym b.threshold in
      ((λ i. Ok (record { p = p i; n = n i; t = t i })), a.scores ∙ sym b.scores)

  pub reading_determined :
      {r q : Result Trailer Refusal} {x y : List ℤ} → reader.Promise sheet out r x → reader.Promise sheet out q y → (r ≡ q) × (x ≡ y)
  reading_determined {r} {q} a b = same_reading r q (a.refused ∙ sym b.refused) a.meant b.meant

pub notes_determined : (sheet : List ℕ) {x y : List ℕ} → x ≡ reader.shown sheet → y ≡ reader.shown sheet → x ≡ y
notes_determined sheet a b = a ∙ sym b

module _ (notes : List ℕ) (scores : List ℤ) (n : ℕ) (t : ℤ) (buf : List ℕ) where
  same_writing :
      (r q : Result ℕ Refusal) {x y : List ℕ} → refusal r ≡ refusal q → writer.Meant notes scores n t buf r x →
      writer.Meant notes scores n t buf q y → (r ≡ q) × (x ≡ y)
  same_writing (Err k) (Err k') e a b = (cc, a ∙ sym b)
  same_writing (Err k) (Ok l) e a b = absurd (let z : ◌≡◌ {A = ℕ} 0 1 = cc in omega arith)
  same_writing (Ok l) (Err k) e a b = absurd (let z : ◌≡◌ {A = ℕ} 0 1 = cc in omega arith)
  same_writing (Ok l) (Ok l') e a b =
      let same : l ≡ l' = a.0 ∙ sym b.0 in
      ((λ i. Ok (same i)), rw same at a.1 ∙ sym b.1)

  pub writing_determined :
      {r q : Result ℕ Refusal} {x y : List ℕ} → writer.Promise notes scores n t buf r x → writer.Promise notes scores n t buf q y →
      (r ≡ q) × (x ≡ y)
  writing_determined {r} {q} a b = same_writing r q (a.refused ∙ sym b.refused) a.meant b.meant
