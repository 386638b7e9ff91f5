-- What the theorems ask of a problem, of a keeper and of a cut; an instance proves these and has the theorems.
-- Assumes nothing.
use Prim.Native.Nat.{ℕ, ◌+◌, ◌≤◌, ◌<◌}
use mathlib.Core.Path.{◌≡◌}
use mathlib.Core.Logic.{◌⊎◌}
use mathlib.Core.Bool.{Bool, true, false}
use mathlib.Core.List.{List, [], ◌∷◌}
use lib.ListN.{length}
use Rattle.walk.specs.Problem.{Problem, Keeper}
use Rattle.walk.specs.Best.{Order}

-- the node once all of these ways are marked
unfoldable pub marked : (p : Problem) → p.Node → List p.Way → p.Node
marked p s [] = s
marked p s (w ∷ ws) = marked p (p.mark s w) ws

-- in one set or the other
abbrev pub Either : {A : Type 0} → (A → Type 0) → (A → Type 0) → A → Type 0
Either P Q a = P a ⊎ Q a

-- The tree. `Below s a`: the answer a has all that was added on the way to s and nothing else that is marked there.
-- `Beats a b`: b may be dropped once a is met.
pub record Laws (p : Problem) (price : p.Answer → ℕ) (Beats : p.Answer → p.Answer → Type 0) : Type 1 where
  -- what is true of the root and stays true
  pub Fit : p.Node → Type 0
  pub Below : p.Node → p.Answer → Type 0
  -- the number of free ways left
  pub count : p.Node → ℕ
  pub fit_add : (s : p.Node) (w : p.Way) → Fit s → p.free s w ≡ true → Fit (p.add s w)
  pub fit_mark : (s : p.Node) (w : p.Way) → Fit s → Fit (p.mark s w)
  -- "no quad: it is a repair", and no set with more pairs is better
  pub stop : (s : p.Node) → Fit s → p.done s ≡ true → Below s (p.answer s)
  pub beats : (s : p.Node) (a : p.Answer) → Fit s → p.done s ≡ true → Below s a → Beats (p.answer s) a
  -- every repair below a node that has a quad includes one of its ways
  pub go : (s : p.Node) (a : p.Answer) → Fit s → p.done s ≡ false → Below (marked p s (p.ways s)) a → ⊥
  -- an answer with the way w is below `add s w`, one without it below `mark s w`, and nothing else is below them
  pub split :
      (s : p.Node) (w : p.Way) (a : p.Answer) → Fit s → Below s a →
      ((p.free s w ≡ true) × Below (p.add s w) a) ⊎ Below (p.mark s w) a
  pub up_add : (s : p.Node) (w : p.Way) (a : p.Answer) → Fit s → p.free s w ≡ true → Below (p.add s w) a → Below s a
  pub up_mark : (s : p.Node) (w : p.Way) (a : p.Answer) → Fit s → Below (p.mark s w) a → Below s a
  -- the price so far, which no answer below undercuts
  pub spent_answer : (s : p.Node) → Fit s → price (p.answer s) ≡ p.spent s
  pub spent_add : (s : p.Node) (w : p.Way) → Fit s → p.free s w ≡ true → p.spent (p.add s w) ≡ p.spent s + p.toll w
  pub spent_mark : (s : p.Node) (w : p.Way) → Fit s → p.spent (p.mark s w) ≡ p.spent s
  pub spent_below : (s : p.Node) (a : p.Answer) → Fit s → Below s a → p.spent s ≤ price a
  -- "falling number is the count of free pairs"
  pub count_add : (s : p.Node) (w : p.Way) → Fit s → p.free s w ≡ true → count (p.add s w) < count s
  pub count_mark : (s : p.Node) (w : p.Way) → Fit s → count (p.mark s w) ≤ count s

-- A keeper. `Good P x`: x is what is to be kept of the set P.
pub record Keeping {A : Type 0} (q : Keeper A) (price : A → ℕ) (Beats : A → A → Type 0) : Type 1 where
  pub Good : (A → Type 0) → q.Kept → Type 0
  pub start : Good (λ a. ⊥) q.empty
  pub only : (P : A → Type 0) (x y : q.Kept) → Good P x → Good P y → x ≡ y
  pub same :
      (P Q : A → Type 0) (x : q.Kept) → ((a : A) → P a → Q a) → ((a : A) → Q a → P a) → Good P x → Good Q x
  -- answers above the limit change nothing
  pub above :
      (P Q : A → Type 0) (x : q.Kept) → ((a : A) → Q a → q.limit x < price a) → Good P x → Good (Either P Q) x
  -- an answer within the limit stands for all that it beats
  pub take :
      (P Q : A → Type 0) (x : q.Kept) (a : A) → Q a → ((b : A) → Q b → Beats a b) → price a ≤ q.limit x → Good P x →
      Good (Either P Q) (q.keep x a)
  -- the limit never rises
  pub falls : (x : q.Kept) (a : A) → price a ≤ q.limit x → q.limit (q.keep x a) ≤ q.limit x

-- "lowest price; among equals ..": a strict order in which the price decides first, and no two answers are equals
pub record Ordered {A : Type 0} (o : Order A) : Type 0 where
  pub cheaper : (a b : A) → o.price a < o.price b → o.better a b ≡ true
  pub no_dearer : (a b : A) → o.better a b ≡ true → o.price a ≤ o.price b
  pub transitive : (a b c : A) → o.better a b ≡ true → o.better b c ≡ true → o.better a c ≡ true
  pub total : (a b : A) → o.better a b ≡ false → o.better b a ≡ false → a ≡ b

-- with one answer kept, b may be dropped once a is met if b is not better
abbrev pub NotBetter : {A : Type 0} → Order A → A → A → Type 0
NotBetter o a b = o.better b a ≡ false

-- "if price plus packing bound exceeds the limit": no answer below the node is within it
abbrev pub Safe :
    {p : Problem} {price : p.Answer → ℕ} {Beats : p.Answer → p.Answer → Type 0} → Laws p price Beats →
    (p.Node → ℕ → Bool) → Type 0
Safe {p} {price} l cut =
    (s : p.Node) (limit : ℕ) (a : p.Answer) → l.Fit s → cut s limit ≡ true → l.Below s a → limit < price a

-- A height of nodes: every way that can be entered within k leads lower.
pub record Steep (p : Problem) (Fit : p.Node → Type 0) (k b : ℕ) (height : p.Node → ℕ) : Type 0 where
  pub few : (s : p.Node) → Fit s → length (p.ways s) ≤ b
  pub lower :
      (s : p.Node) (w : p.Way) → Fit s → p.free s w ≡ true → p.spent s + p.toll w ≤ k →
      height (p.add s w) < height s
  pub level : (s : p.Node) (w : p.Way) → Fit s → height (p.mark s w) ≤ height s
