-- The toy problem obeys every law, so no law contradicts another, and the promises hold of it. Each law is one table
-- over all 27 nodes, 8 answers and 3 ways, computed, and looked up. Assumes nothing.
use Prim.Native.Nat.{ℕ, ◌+◌, ◌*◌, ◌/◌, ◌≤◌, ◌<◌}
use mathlib.Core.Path.{◌≡◌, refl, sym, ap, ◌∙◌}
use mathlib.Core.Logic.{◌⊎◌, inl, inr}
use mathlib.Core.Bool.{Bool, true, false, not, ◌&&◌, ◌||◌}
use mathlib.Core.Option.{some}
use native.Mathlib.Omega.{arith}
use lib.Dec.{leb, ltb, eqb}
use borrow.Author.Tests.{ltb-true, ltb-false, lt-ltb, leb-true, eqb-true, not-true}
use Rattle.bits.specs.Choice.{pick}
use Rattle.bits.specs.Bit.{odd}
use Rattle.bits.proofs.Truth.{never, and_in, and_left, and_right, or_out, not_in}
use Rattle.walk.specs.Walk.{entered, only_if, found, opens, tries, branch, visit, node, walk}
use Rattle.walk.specs.Best.{IsBest, keep_better, limit_of}
use Rattle.walk.proofs.Promises.{kept_best}
use Rattle.walk.proofs.Laws.{Laws, Ordered, NotBetter, Safe, marked}
use Rattle.walk.proofs.Toy.{Thing, first, second, third, Mark, ajar, taken, shut, Three, at, put, is_open, close, set_of, size, enough, toy, rank, order, bound, pruned, root, answer}

-- where the first test passes, so does the second
abbrev pub ◌⇒◌ : Bool → Bool → Bool
true ⇒ b = b
false ⇒ b = true

infixr 5 ◌⇒◌
then : {a b : Bool} → (a ⇒ b) ≡ true → a ≡ true → b ≡ true
then {a} {b} h e = sym (ap (λ t. t ⇒ b) e) ∙ h

-- a test of all values, and what it says of one
every_thing : (Thing → Bool) → Bool
every_thing f = f first && (f second && f third)

every_thing_lem : (f : Thing → Bool) → every_thing f ≡ true → (w : Thing) → f w ≡ true
unfolding every_thing
every_thing_lem f h first = and_left (f first) _ h
every_thing_lem f h second = and_left (f second) _ (and_right (f first) _ h)
every_thing_lem f h third = and_right (f second) _ (and_right (f first) _ h)

every_mark : (Mark → Bool) → Bool
every_mark f = f ajar && (f taken && f shut)

every_mark_lem : (f : Mark → Bool) → every_mark f ≡ true → (m : Mark) → f m ≡ true
unfolding every_mark
every_mark_lem f h ajar = and_left (f ajar) _ h
every_mark_lem f h taken = and_left (f taken) _ (and_right (f ajar) _ h)
every_mark_lem f h shut = and_right (f taken) _ (and_right (f ajar) _ h)

every_bool : (Bool → Bool) → Bool
every_bool f = f true && f false

every_bool_lem : (f : Bool → Bool) → every_bool f ≡ true → (b : Bool) → f b ≡ true
unfolding every_bool
every_bool_lem f h true = and_left (f true) _ h
every_bool_lem f h false = and_right (f true) _ h

every_three : {A : Type 0} → ((A → Bool) → Bool) → (Three A → Bool) → Bool
every_three every f = every (λ a. every (λ b. every (λ c. f (record { x = a; y = b; z = c }))))

every_three_lem :
    {A : Type 0} (every : (A → Bool) → Bool) → ((f : A → Bool) → every f ≡ true → (a : A) → f a ≡ true) →
    (f : Three A → Bool) → every_three every f ≡ true → (t : Three A) → f t ≡ true
unfolding every_three
every_three_lem every one f h t = one _ (one _ (one _ h t.x) t.y) t.z

-- the tables: of nodes, of nodes and ways, of nodes and answers, of all three
every_node : (Three Mark → Bool) → Bool
every_node = every_three every_mark

every_answer : (Three Bool → Bool) → Bool
every_answer = every_three every_bool

of_node : (f : Three Mark → Bool) → every_node f ≡ true → (s : Three Mark) → f s ≡ true
unfolding every_node
of_node = every_three_lem every_mark every_mark_lem

of_answer : (f : Three Bool → Bool) → every_answer f ≡ true → (a : Three Bool) → f a ≡ true
unfolding every_answer
of_answer = every_three_lem every_bool every_bool_lem

of_way :
    (f : Three Mark → Thing → Bool) → every_node (λ s. every_thing (f s)) ≡ true → (s : Three Mark) (w : Thing) → f s w ≡ true
of_way f h s w = every_thing_lem (f s) (of_node _ h s) w

of_both :
    (f : Three Mark → Three Bool → Bool) → every_node (λ s. every_answer (f s)) ≡ true → (s : Three Mark) (a : Three Bool) →
    f s a ≡ true
of_both f h s a = of_answer (f s) (of_node _ h s) a

of_all :
    (f : Three Mark → Thing → Three Bool → Bool) → every_node (λ s. every_thing (λ w. every_answer (f s w))) ≡ true →
    (s : Three Mark) (w : Thing) (a : Three Bool) → f s w a ≡ true
of_all f h s w a = of_answer (f s w) (of_way _ h s w) a

-- what is taken is in the set, what is shut is not, and the set is an answer
abbrev pub agrees : Mark → Bool → Bool
agrees ajar b = true
agrees taken b = b
agrees shut b = not b

abbrev pub below : Three Mark → Three Bool → Bool
below s a = (agrees s.x a.x && (agrees s.y a.y && agrees s.z a.z)) && enough a

abbrev pub opened : Three Mark → ℕ
opened s = pick (is_open s.x) 1 0 + pick (is_open s.y) 1 0 + pick (is_open s.z) 1 0

split : {a b c : Bool} → ((a && b) || c) ≡ true → ((a ≡ true) × (b ≡ true)) ⊎ (c ≡ true)
split {a} {b} {c} h = go (or_out (a && b) c h)
  where
    go : ((a && b) ≡ true) ⊎ (c ≡ true) → ((a ≡ true) × (b ≡ true)) ⊎ (c ≡ true)
    go (inl e) = inl (and_left a b e, and_right a b e)
    go (inr e) = inr e

pub laws : Laws toy size (NotBetter order)
unfolding every_node every_answer every_three every_mark every_bool every_thing marked
laws =
    record {
      Fit = λ s. Unit {0};
      Below = λ s a. below s a ≡ true;
      count = opened;
      fit_add = λ s w fit free. tt;
      fit_mark = λ s w fit. tt;
      stop = λ s fit done. then (of_node (λ s. enough (set_of s) ⇒ below s (set_of s)) refl s) done;
      beats = λ s a fit done b.
          let kept : Three Mark → Three Bool → Bool = λ s a. enough (set_of s) && below s a in
          let table = of_both (λ s a. kept s a ⇒ not (ltb (rank a) (rank (set_of s)))) refl s a in
          not-true _ (then table (and_in done b));
      go = λ s a fit unmet b.
          let table = of_both (λ s a. not (enough (set_of s)) ⇒ not (below (marked toy s (toy.ways s)) a)) refl s a in
          never b (not-true _ (then table (not_in unmet)));
      split = λ s w a fit b.
          let with : Three Mark → Thing → Three Bool → Bool = λ s w a. is_open (at s w) && below (put s w taken) a in
          split (then (of_all (λ s w a. below s a ⇒ (with s w a || below (toy.mark s w) a)) refl s w a) b);
      up_add = λ s w a fit free b.
          then (of_all (λ s w a. (is_open (at s w) && below (put s w taken) a) ⇒ below s a) refl s w a) (and_in free b);
      up_mark = λ s w a fit b. then (of_all (λ s w a. below (put s w (close (at s w))) a ⇒ below s a) refl s w a) b;
      spent_answer = λ s fit. refl;
      spent_add = λ s w fit free.
          eqb-true _ _ (then (of_way (λ s w. is_open (at s w) ⇒ eqb (size (set_of (put s w taken))) (size (set_of s) + 1)) refl s w) free);
      spent_mark = λ s w fit.
          eqb-true _ _ (of_way (λ s w. eqb (size (set_of (put s w (close (at s w))))) (size (set_of s))) refl s w);
      spent_below = λ s a fit b. leb-true _ _ (then (of_both (λ s a. below s a ⇒ leb (size (set_of s)) (size a)) refl s a) b);
      count_add = λ s w fit free.
          ltb-true _ _ (then (of_way (λ s w. is_open (at s w) ⇒ ltb (opened (put s w taken)) (opened s)) refl s w) free);
      count_mark = λ s w fit. leb-true _ _ (of_way (λ s w. leb (opened (put s w (close (at s w)))) (opened s)) refl s w);
    }

-- the order is by rank, and a rank tells its set
unrank : ℕ → Three Bool
unrank n = record { x = not (odd (n / 4)); y = not (odd (n / 2)); z = not (odd n) }

unrank_rank : (a b c : Bool) → unrank (rank (record { x = a; y = b; z = c })) ≡ record { x = a; y = b; z = c }
unfolding unrank odd
unrank_rank true true true = refl
unrank_rank true true false = refl
unrank_rank true false true = refl
unrank_rank true false false = refl
unrank_rank false true true = refl
unrank_rank false true false = refl
unrank_rank false false true = refl
unrank_rank false false false = refl

rank_low : (a : Three Bool) → size a * 8 ≤ rank a
rank_low a = omega arith

rank_high : (a : Three Bool) → rank a < size a * 8 + 8
unfolding every_answer every_three every_bool
rank_high a = ltb-true _ _ (of_answer (λ a. ltb (rank a) (size a * 8 + 8)) refl a)

pub ordered : Ordered order
ordered =
    record {
      cheaper = λ a b h. lt-ltb (rank a) (rank b) (omega (arith, rank_high a, rank_low b));
      no_dearer = λ a b h. omega (arith, ltb-true (rank a) (rank b) h, rank_low a, rank_high b);
      transitive = λ a b c h k. lt-ltb (rank a) (rank c) (omega (arith, ltb-true (rank a) (rank b) h, ltb-true (rank b) (rank c) k));
      total = λ a b h k.
          let same : rank a ≡ rank b = omega (arith, ltb-false (rank a) (rank b) h, ltb-false (rank b) (rank a) k) in
          sym (unrank_rank a.x a.y a.z) ∙ ap unrank same ∙ unrank_rank b.x b.y b.z;
    }

pub pruned_safe : Safe laws pruned
unfolding laws every_node every_answer every_three every_mark every_bool
pruned_safe s limit a fit e b =
    let over = ltb-true limit (size (set_of s) + bound s) e in
    let low : size (set_of s) + bound s ≤ size a =
    leb-true _ _ (then (of_both (λ s a. below s a ⇒ leb (size (set_of s) + bound s) (size a)) refl s a) b) in
    omega arith

-- the promise, at work: the answer that the table shows is the best within 2, since any walk keeps the best
pub toy_best : IsBest order 2 (λ a. below root a ≡ true) (some answer)
unfolding laws walk node visit branch tries opens found only_if entered keep_better limit_of
toy_best = kept_best ordered laws 2 root tt (omega arith) pruned pruned_safe 4 (omega arith)

-- and that none is within 1
pub toy_none : (a : Three Bool) → below root a ≡ true → 1 < size a
unfolding laws walk node visit branch tries opens found only_if entered keep_better limit_of
toy_none = kept_best ordered laws 1 root tt (omega arith) pruned pruned_safe 4 (omega arith)
