-- The listed pairs toggled one by one: a pair that is not listed before is one more flip. Assumes nothing.
use mathlib.Core.Path.{◌≡◌, refl, sym, ◌∙◌, ap, ap₂, fun_ext}
use mathlib.Core.Logic.{◌⊎◌, inl, inr}
use mathlib.Core.Bool.{Bool, true, false, ◌||◌, or_comm}
use mathlib.Core.List.{List, [], ◌∷◌, ◌++◌}
use Prim.Native.Nat.{ℕ, zero, suc, ◌+◌, ◌*◌, ◌/◌, ◌%◌, ◌<◌, min, max}
use native.Mathlib.Nat.{div-add-mod'}
use native.Mathlib.Omega.{arith}
use lib.ListN.{length, get_or, take}
use lib.Dec.{ltb, eqb}
use borrow.Author.Tests.{ltb-true}
use Rattle.bits.proofs.Truth.{never, fails, and_left, and_right}
use Rattle.graph.specs.Graph.{flipped}
use Rattle.repair.specs.Pair.{pair_of, is_pair, member, all, ascending}
use Rattle.repair.specs.Repair.{toggled}
use Rattle.repair.specs.Tree.{insert}
use Rattle.repair.proofs.Sets.{member_here, member_there, member_out, member_none, member_append, all_at}
use Rattle.repair.proofs.Inserts.{insert_member, ascending_head, ascending_tail}
use Rattle.repair.proofs.Toggling.{Two, toggled_insert, toggled_set, toggled_stays}
use Rattle.scores.proofs.Squares.{row_column}
use Rattle.lines.specs.Inner.{drawn_of, turned}
use Rattle.lines.proofs.Behind.{take_more}
use Rattle.lines.proofs.Drawn.{turned_both}

-- an entry of a list is one of its members
pub get_or_member : (xs : List ℕ) (k : ℕ) → k < length xs → member (get_or xs k 0) xs ≡ true
get_or_member [] k h = absurd (omega arith)
get_or_member (x ∷ xs) zero h = member_here x xs
get_or_member (x ∷ xs) (suc k) h = member_there (get_or xs k 0) x xs (get_or_member xs k (omega arith))

-- of an ascending list, an entry is not among those before it
fresh : (xs : List ℕ) (k : ℕ) → k < length xs → ascending xs ≡ true → member (get_or xs k 0) (take k xs) ≡ false
fresh [] k h up = absurd (omega arith)
fresh (x ∷ xs) zero h up = fails (member_none x)
fresh (x ∷ xs) (suc k) h up = fails (λ m. go (fresh xs k (omega arith) (ascending_tail x xs up)) (member_out (get_or xs k 0) x (take k xs) m))
  where
    go : member (get_or xs k 0) (take k xs) ≡ false → (get_or xs k 0 ≡ x) ⊎ (member (get_or xs k 0) (take k xs) ≡ true) → ⊥
    go off (inl e) = let l = ascending_head x xs up (get_or xs k 0) (get_or_member xs k (omega arith)) in omega arith
    go off (inr m) = never m off

-- the number of a pair: below n x n, with its vertices in order
module _ (n x : ℕ) (pair : is_pair n x ≡ true) where
  pub pair_inside : x < n * n
  unfolding is_pair
  pair_inside = ltb-true x (n * n) (and_left (ltb x (n * n)) _ pair)

  pair_order : x / n < x % n
  unfolding is_pair
  pair_order = ltb-true (x / n) (x % n) (and_right (ltb x (n * n)) _ pair)

  pub pair_two : Two n (x / n) (x % n)
  pair_two =
      let at = row_column n x pair_inside in
      record { left = at.0; right = at.1; apart = λ e. omega (arith, pair_order) }

  pair_number : pair_of n (x / n) (x % n) ≡ x
  unfolding pair_of
  pair_number =
      let up = pair_order in
      let low : min (x / n) (x % n) ≡ x / n = omega arith in
      let high : max (x / n) (x % n) ≡ x % n = omega arith in
      ap₂ (λ s t. s * n + t) low high ∙ div-add-mod' x n

  -- one more pair in the list is one more flip
  pub toggled_more :
      (e : ℕ → ℕ → Bool) (r : List ℕ) → member x r ≡ false →
      flipped (x / n) (x % n) (toggled n e r) ≡ toggled n e (r ++ (x ∷ []))
  unfolding member
  toggled_more e r off =
      sym (toggled_insert n e (x / n) (x % n) pair_two r (ap (λ p. member p r) pair_number ∙ off)) ∙
      toggled_set n e (insert (pair_of n (x / n) (x % n)) r) (r ++ (x ∷ [])) alike
    where
      none : (b : Bool) → (b || false) ≡ b
      none true = refl
      none false = refl

      alike : (z : ℕ) → member z (insert (pair_of n (x / n) (x % n)) r) ≡ member z (r ++ (x ∷ []))
      alike z =
          insert_member z (pair_of n (x / n) (x % n)) r ∙ ap (λ p. eqb z p || member z r) pair_number ∙
          or_comm (eqb z x) (member z r) ∙ ap (λ t. member z r || t) (sym (none (eqb z x))) ∙ sym (member_append z r (x ∷ []))

-- every listed number is a pair's
module _ (n : ℕ) (repair : List ℕ) (pairs : all (is_pair n) repair ≡ true) where
  listed_pair : (k : ℕ) → k < length repair → is_pair n (get_or repair k 0) ≡ true
  listed_pair k h = all_at (is_pair n) (get_or repair k 0) repair pairs (get_or_member repair k h)

  pub listed_inside : (k : ℕ) → k < length repair → get_or repair k 0 < n * n
  listed_inside k h = pair_inside n (get_or repair k 0) (listed_pair k h)

module _ (n : ℕ) (e : ℕ → ℕ → Bool) (repair : List ℕ) (up : ascending repair ≡ true) (pairs : all (is_pair n) repair ≡ true) where
  pub mend_start : drawn_of n e ≡ drawn_of n (toggled n e (take 0 repair))
  unfolding toggled member
  mend_start = ap (drawn_of n) (fun_ext (λ i. fun_ext (λ j. sym (toggled_stays n e [] i j refl))))

  -- one pair more is toggled
  pub mend_more :
      (k : ℕ) {now after : List ℕ} → k < length repair → now ≡ drawn_of n (toggled n e (take k repair)) →
      after ≡ turned (turned now (get_or repair k 0)) (get_or repair k 0 % n * n + get_or repair k 0 / n) →
      after ≡ drawn_of n (toggled n e (take (k + 1) repair))
  mend_more k {now} {after} h so_far step =
      let x : ℕ = get_or repair k 0 in
      let pair = listed_pair n repair pairs k h in
      let two = pair_two n x pair in
      let before : ℕ → ℕ → Bool = toggled n e (take k repair) in
      step ∙ ap (λ g. turned (turned g x) (x % n * n + x / n)) so_far ∙
      ap (λ (p : ℕ). turned (turned (drawn_of n before) p) (x % n * n + x / n)) (sym (div-add-mod' x n)) ∙
      turned_both n before (x / n) (x % n) two.left two.right two.apart ∙
      ap (drawn_of n)
      (toggled_more n x pair e (take k repair) (fresh repair k h up) ∙ ap (toggled n e) (take_more repair k h))
