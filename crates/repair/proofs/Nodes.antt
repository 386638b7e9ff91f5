-- The nodes of document 01's tree, and the repairs below a node: those that have its path and whose other pairs are free
-- there; at the root, all repairs. One with the pair w is below `add s w`, one without it below `mark s w`, and nothing
-- else is. Assumes nothing.
use mathlib.Core.Path.{◌≡◌, refl, sym, ap, ◌∙◌}
use mathlib.Core.Logic.{◌⊎◌, inl, inr, ◌≢◌}
use mathlib.Core.Bool.{Bool, true, false}
use mathlib.Core.List.{List, ◌∷◌}
use Prim.Native.Nat.{ℕ}
use lib.Dec.{eqb}
use borrow.Author.Tests.{eqb-true, eqb-false, ne_eqb, not-true}
use Rattle.bits.proofs.Truth.{
  never,
  which,
  fails,
  and_in,
  and_left,
  and_right,
  not_in,
  or_left,
  or_right,
  or_out,
  or_off,
  or_off_left,
  or_off_right,
}
use Rattle.repair.specs.Pair.{changeable, member, all, ascending}
use Rattle.repair.specs.Repair.{Repair}
use Rattle.repair.specs.Tree.{insert, Node, root, free, mark, add}
use Rattle.repair.proofs.Sets.{member_none, member_there, member_apart, all_at, all_in}
use Rattle.repair.proofs.Inserts.{insert_member, insert_ascending}
use Rattle.repair.proofs.Supersets.{Subset}

-- a free pair may be changed and is not marked
pub free_changeable : (n : ℕ) (toll : ℕ → ℕ) (s : Node) (x : ℕ) → free n toll s x ≡ true → changeable n toll x ≡ true
unfolding free
free_changeable n toll s x h = and_left (changeable n toll x) _ h

pub free_unmarked : (n : ℕ) (toll : ℕ → ℕ) (s : Node) (x : ℕ) → free n toll s x ≡ true → member x s.marks ≡ false
unfolding free
free_unmarked n toll s x h = not-true _ (and_right (changeable n toll x) _ h)

pub free_in :
    (n : ℕ) (toll : ℕ → ℕ) (s : Node) (x : ℕ) → changeable n toll x ≡ true → member x s.marks ≡ false →
    free n toll s x ≡ true
unfolding free
free_in n toll s x h m = and_in h (not_in m)

-- one more mark
pub marks_more : (z x : ℕ) (xs : List ℕ) → member z (x ∷ xs) ≡ false → member z xs ≡ false
unfolding member
marks_more z x xs h = or_off_right (eqb z x) (member z xs) h

marks_out : (z x : ℕ) (xs : List ℕ) → z ≢ x → member z xs ≡ false → member z (x ∷ xs) ≡ false
unfolding member
marks_out z x xs apart h = or_off (ne_eqb z x apart) h

module _ (n : ℕ) (e : ℕ → ℕ → Bool) (toll : ℕ → ℕ) where
  -- what is true of every node: its path is an ascending list of pairs that may be changed, all of them marked
  pub record Fit (s : Node) : Type 0 where
    pub sorted : ascending s.path ≡ true
    pub allowed : all (changeable n toll) s.path ≡ true
    pub held : Subset s.path s.marks

  -- the repairs below a node: those with its path and nothing else that is marked there
  pub record Below (s : Node) (a : List ℕ) : Type 0 where
    pub repair : Repair n e toll a
    pub has : Subset s.path a
    pub others : (x : ℕ) → member x a ≡ true → member x s.path ≡ false → free n toll s x ≡ true

  pub fit_root : Fit root
  fit_root = record { sorted = unfold ascending in refl; allowed = unfold all in refl; held = λ x m. m }

  pub below_root : (a : List ℕ) → Repair n e toll a → Below root a
  below_root a r =
      record {
        repair = r;
        has = λ x m. absurd (member_none x m);
        others = λ x m out. free_in n toll root x (all_at (changeable n toll) x a r.allowed m) (unfold member in refl);
      }

  -- a free pair is fresh: the path has it not
  fresh : (s : Node) (w : ℕ) → Fit s → free n toll s w ≡ true → member w s.path ≡ false
  fresh s w fit h = fails (λ m. never (fit.held w m) (free_unmarked n toll s w h))

  pub fit_add : (s : Node) (w : ℕ) → Fit s → free n toll s w ≡ true → Fit (add s w)
  unfolding add
  fit_add s w fit h =
      record {
        sorted = insert_ascending w s.path fit.sorted (fresh s w fit h);
        allowed = all_in (changeable n toll) (insert w s.path) (λ x m. may x (or_out (eqb x w) _ (sym (insert_member x w s.path) ∙ m)));
        held = λ x m. in_marks x (or_out (eqb x w) _ (sym (insert_member x w s.path) ∙ m));
      }
    where
      may : (x : ℕ) → (eqb x w ≡ true) ⊎ (member x s.path ≡ true) → changeable n toll x ≡ true
      may x (inl q) = ap (changeable n toll) (eqb-true x w q) ∙ free_changeable n toll s w h
      may x (inr m) = all_at (changeable n toll) x s.path fit.allowed m

      in_marks : (x : ℕ) → (eqb x w ≡ true) ⊎ (member x s.path ≡ true) → member x (w ∷ s.marks) ≡ true
      in_marks x (inl q) = unfold member in or_left _ q
      in_marks x (inr m) = member_there x w s.marks (fit.held x m)

  pub fit_mark : (s : Node) (w : ℕ) → Fit s → Fit (mark s w)
  unfolding mark
  fit_mark s w fit =
      record {
        sorted = fit.sorted;
        allowed = fit.allowed;
        held = λ x m. member_there x w s.marks (fit.held x m);
      }

  -- an answer with the pair w is below `add s w`, one without it below `mark s w`
  down_add : (s : Node) (w : ℕ) (a : List ℕ) → Below s a → member w a ≡ true → Below (add s w) a
  unfolding add
  down_add s w a b m =
      record {
        repair = b.repair;
        has = λ x k. go x (or_out (eqb x w) _ (sym (insert_member x w s.path) ∙ k));
        others = λ x k out.
            let off = sym (insert_member x w s.path) ∙ out in
            let was = b.others x k (or_off_right (eqb x w) (member x s.path) off) in
            free_in n toll (add s w) x (free_changeable n toll s x was)
            (marks_out x w s.marks (eqb-false x w (or_off_left (eqb x w) (member x s.path) off))
            (free_unmarked n toll s x was));
      }
    where
      go : (x : ℕ) → (eqb x w ≡ true) ⊎ (member x s.path ≡ true) → member x a ≡ true
      go x (inl q) = ap (λ z. member z a) (eqb-true x w q) ∙ m
      go x (inr k) = b.has x k

  down_mark :
      (s : Node) (w : ℕ) (a : List ℕ) → Below s a → ((x : ℕ) → member x a ≡ true → member x s.path ≡ false → x ≢ w) →
      Below (mark s w) a
  unfolding mark
  down_mark s w a b apart =
      record {
        repair = b.repair;
        has = b.has;
        others = λ x k out.
            let was = b.others x k out in
            free_in n toll (mark s w) x (free_changeable n toll s x was)
            (marks_out x w s.marks (apart x k out) (free_unmarked n toll s x was));
      }

  pub split :
      (s : Node) (w : ℕ) (a : List ℕ) → Fit s → Below s a →
      ((free n toll s w ≡ true) × Below (add s w) a) ⊎ Below (mark s w) a
  split s w a fit b = go (which (member w a)) (which (member w s.path))
    where
      go :
          (member w a ≡ true) ⊎ (member w a ≡ false) → (member w s.path ≡ true) ⊎ (member w s.path ≡ false) →
          ((free n toll s w ≡ true) × Below (add s w) a) ⊎ Below (mark s w) a
      go (inl m) (inl p) = inr (down_mark s w a b (λ x k out q. member_apart w x s.path p out (sym q)))
      go (inl m) (inr p) = inl (b.others w m p, down_add s w a b m)
      go (inr m) p = inr (down_mark s w a b (λ x k out. member_apart x w a k m))

  pub up_add : (s : Node) (w : ℕ) (a : List ℕ) → Fit s → free n toll s w ≡ true → Below (add s w) a → Below s a
  unfolding add
  up_add s w a fit h b =
      record {
        repair = b.repair;
        has = λ x m. b.has x (insert_member x w s.path ∙ or_right (eqb x w) m);
        others = λ x m out. go x m out (which (eqb x w));
      }
    where
      go :
          (x : ℕ) → member x a ≡ true → member x s.path ≡ false → (eqb x w ≡ true) ⊎ (eqb x w ≡ false) →
          free n toll s x ≡ true
      go x m out (inl q) = ap (free n toll s) (eqb-true x w q) ∙ h
      go x m out (inr q) =
          let was = b.others x m (insert_member x w s.path ∙ or_off q out) in
          free_in n toll s x (free_changeable n toll (add s w) x was)
          (marks_more x w s.marks (free_unmarked n toll (add s w) x was))

  pub up_mark : (s : Node) (w : ℕ) (a : List ℕ) → Fit s → Below (mark s w) a → Below s a
  unfolding mark
  up_mark s w a fit b =
      record {
        repair = b.repair;
        has = b.has;
        others = λ x m out.
            let was = b.others x m out in
            free_in n toll s x (free_changeable n toll (mark s w) x was)
            (marks_more x w s.marks (free_unmarked n toll (mark s w) x was));
      }
