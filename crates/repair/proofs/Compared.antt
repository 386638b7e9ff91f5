-- The order of slices in the library, which Rust's `<` asks, is the order on lists. Assumes nothing.
use Rattle.std.proofs.Common.{◌≡◌, ℕ, Bool, List, Ordering, refl, arith}
use Rattle.std.specs.Prelude.{Some}
use Rattle.std.specs.Ordering.{nat_cmp, is_lt, is_some_and}
use Rattle.std.specs.Cmp.Lexicographic.{slice_cmp, slice_partial_cmp}
use Rattle.std.proofs.lemmas.Bool.Decides.{nat_tests}
use Rattle.std.proofs.lemmas.Cmp.{same_from_slice_cmp, same_from_slice_cmp_tested}
use Rattle.repair.specs.Better.{smaller}

-- what `x < y` answers at two lists
pub below_is_smaller :
    (xs ys : List ℕ) (r : Bool) → r ≡ is_some_and is_lt (slice_partial_cmp (λ x y. Some (nat_cmp x y)) xs ys) →
    r ≡ smaller xs ys
unfolding smaller
below_is_smaller =
    same_from_slice_cmp_tested nat_cmp is_lt smaller refl (λ _ _. refl) (λ _ _. refl) (λ x y xs ys o h. grind (arith, nat_tests))

-- what `x.cmp(&y)` answers there
pub less_is_smaller : (xs ys : List ℕ) (o : Ordering) → o ≡ slice_cmp nat_cmp xs ys → is_lt o ≡ smaller xs ys
unfolding smaller
less_is_smaller = same_from_slice_cmp nat_cmp is_lt smaller refl (λ _ _. refl) (λ _ _. refl) (λ x y xs ys o h. grind (arith, nat_tests))
