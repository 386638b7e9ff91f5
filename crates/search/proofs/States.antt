-- The memory stands for a node, and goes on standing for one: with a pair marked, and with a pair entered. Assumes nothing.
use mathlib.Core.Path.{◌≡◌, sym, ap, ap₂, ◌∙◌}
use mathlib.Core.Logic.{◌⊎◌, inl, inr, ◌≢◌}
use mathlib.Core.Bool.{Bool, true, false}
use mathlib.Core.List.{List, ◌∷◌}
use Prim.Native.Nat.{ℕ, ◌+◌, ◌/◌, ◌%◌, ◌≤◌, ◌<◌}
use native.Mathlib.Omega.{arith}
use borrow.Author.Tests.{le-ltb, ne_eqb, eqb-true}
use lib.Dec.{ltb, eqb}
use lib.ListN.{length, get_or, set}
use lib.Seq.{get_or-set_same, get_or-set_other}
use Rattle.bits.proofs.Truth.{never, fails, same, equal, or_off, or_out}
use Rattle.graph.specs.Price.{fixed}
use Rattle.graph.specs.Graph.{flipped}
use Rattle.graph.specs.Rows.{Toggled}
use Rattle.repair.specs.Pair.{is_pair, member, pair_of}
use Rattle.repair.specs.Repair.{toggled}
use Rattle.repair.specs.Tree.{insert, Node, present, free, mark, add}
use Rattle.repair.proofs.Sets.{member_here, member_there}
use Rattle.repair.proofs.Inserts.{insert_member}
use Rattle.repair.proofs.Toggling.{Two, toggled_insert}
use Rattle.repair.proofs.Nodes.{free_changeable, free_unmarked, free_in, marks_more}
use Rattle.repair.proofs.Instance.{spent_add}
use Rattle.bound.specs.Table.{toll_at, free_at}
use Rattle.memory.specs.Table.{Place, number_at}
use Rattle.memory.specs.Trail.{Put}
use Rattle.search.specs.Memory.{At}
use Rattle.search.proofs.Placing.{index, number_pair, number_index, number_is, index_apart}

module _ (n : ℕ) (toll : ℕ → ℕ) (s : Node) (w : ℕ) where
  -- one mark more: that pair is free no longer, the others are as before
  pub mark_shut : free n toll (mark s w) w ≡ false
  unfolding mark
  mark_shut = fails (λ h. never (member_here w s.marks) (free_unmarked n toll (mark s w) w h))

  pub mark_open : (x : ℕ) → x ≢ w → free n toll (mark s w) x ≡ free n toll s x
  unfolding mark
  mark_open x other =
      same
      (λ h. free_in n toll s x (free_changeable n toll (mark s w) x h) (marks_more x w s.marks (free_unmarked n toll (mark s w) x h)))
      (λ h.
      free_in n toll (mark s w) x (free_changeable n toll s x h)
      (unfold member in or_off (ne_eqb x w other) (free_unmarked n toll s x h)))

module _ (n : ℕ) (cost : List ℕ) (p : ℕ) (few : n ≤ 128) (at : Place n p) (fits : p < length cost) where
  -- the table once p is marked
  pub toll_here : toll_at n cost (number_at n p) ≡ get_or cost p 0
  unfolding toll_at
  toll_here = ap (λ i. get_or cost i 0) (number_index n p few at)

  pub free_here : free_at n (set cost p fixed) (number_at n p) ≡ false
  unfolding free_at toll_at
  free_here =
      le-ltb (get_or (set cost p fixed) (index n (number_at n p)) 0) fixed
      (omega (arith, ap (λ i. get_or (set cost p fixed) i 0) (number_index n p few at), get_or-set_same cost p fixed 0 fits))

  toll_other : (x : ℕ) → x ≢ number_at n p → toll_at n (set cost p fixed) x ≡ toll_at n cost x
  unfolding toll_at
  toll_other x other = get_or-set_other cost p (index n x) fixed 0 (index_apart n p few at x other)

module _
    {n : ℕ} {e : ℕ → ℕ → Bool} {toll : ℕ → ℕ} {s : Node} {words cost path : List ℕ} {spent : ℕ}
    (h : At n e toll s words cost path spent) (p : ℕ) (few : n ≤ 128) (at : Place n p) (fits : p < length cost)
  where
    abbrev x : ℕ
    x = number_at n p

    -- what the table says of the pair at p
    pub at_free : free n toll s x ≡ ltb (get_or cost p 0) fixed
    at_free =
        let here : free_at n cost x ≡ ltb (get_or cost p 0) fixed =
        unfold free_at in ap (λ c. ltb c fixed) (toll_here n cost p few at fits)
        in
        sym (h.opens x (number_is n p few at)) ∙ here

    pub at_toll : free n toll s x ≡ true → toll x ≡ get_or cost p 0
    at_toll f = sym (h.tolls x f) ∙ toll_here n cost p few at fits

    opens_mark : (y : ℕ) → is_pair n y ≡ true → free_at n (set cost p fixed) y ≡ free n toll (mark s x) y
    opens_mark y l = go (equal y x)
      where
        go : (y ≡ x) ⊎ (y ≢ x) → free_at n (set cost p fixed) y ≡ free n toll (mark s x) y
        go (inl q) = rw q (free_here n cost p few at fits ∙ sym (mark_shut n toll s x))
        go (inr q) =
            let as_was : free_at n (set cost p fixed) y ≡ free_at n cost y =
            unfold free_at in ap (λ c. ltb c fixed) (toll_other n cost p few at fits y q)
            in
            as_was ∙ h.opens y l ∙ sym (mark_open n toll s x y q)

    tolls_mark : (y : ℕ) → free n toll (mark s x) y ≡ true → toll_at n (set cost p fixed) y ≡ toll y
    tolls_mark y f = go (equal y x)
      where
        go : (y ≡ x) ⊎ (y ≢ x) → toll_at n (set cost p fixed) y ≡ toll y
        go (inl q) = never (ap (free n toll (mark s x)) (sym q) ∙ f) (mark_shut n toll s x)
        go (inr q) = toll_other n cost p few at fits y q ∙ h.tolls y (sym (mark_open n toll s x y q) ∙ f)

    pub at_mark : At n e toll (mark s x) words (set cost p fixed) path spent
    unfolding mark present
    at_mark =
        record {
          edges = h.edges;
          opens = opens_mark;
          tolls = tolls_mark;
          trail = h.trail;
          price = h.price;
          held = λ y m. member_there y x s.marks (h.held y m);
        }

    pub at_add :
        (words' path' : List ℕ) (r : ℕ) → free n toll s x ≡ true → Toggled (p / 128) (p % 128) words words' →
        Put x path path' r → At n e toll (add s x) words' (set cost p fixed) path' (spent + get_or cost p 0)
    at_add words' path' r f toggled-words put =
        record {
          edges =
              toggled-words.edges ∙ ap (flipped (p / 128) (p % 128)) h.edges ∙
              (unfold present add in
              sym (toggled_insert n e (p / 128) (p % 128) two s.path fresh) ∙
              ap (λ z. toggled n e (insert z s.path)) (sym (number_pair n p few at)));
          opens = unfold add free mark in opens_mark;
          tolls = unfold add free mark in tolls_mark;
          trail = unfold add in put.sorted ∙ ap (insert x) h.trail;
          price = ap₂ ◌+◌ h.price (sym (at_toll f)) ∙ sym (spent_add n e toll s x);
          held = unfold add in λ y m. held y (or_out (eqb y x) (member y s.path) (sym (insert_member y x s.path) ∙ m));
        }
      where
        two : Two n (p / 128) (p % 128)
        two = record { left = omega (arith, at.apart, at.inside); right = at.inside; apart = omega (arith, at.apart) }

        fresh : member (pair_of n (p / 128) (p % 128)) s.path ≡ false
        fresh =
            fails
            (λ m.
            never (h.held x (ap (λ z. member z s.path) (number_pair n p few at) ∙ m)) (free_unmarked n toll s x f))

        held : (y : ℕ) → (eqb y x ≡ true) ⊎ (member y s.path ≡ true) → member y (x ∷ s.marks) ≡ true
        held y (inl q) = ap (λ z. member z (x ∷ s.marks)) (eqb-true y x q) ∙ member_here x s.marks
        held y (inr m) = member_there y x s.marks (h.held y m)
