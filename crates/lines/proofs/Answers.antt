-- The answers of `report`, one lemma for each return. Assumes nothing.
use mathlib.Core.Path.{◌≡◌, refl, sym, ◌∙◌, ap, subst}
use mathlib.Core.List.{List, ◌++◌}
use Prim.Native.Nat.{ℕ, ◌≤◌, ◌<◌}
use native.Mathlib.Omega.{arith}
use lib.ListN.{length, drop, length-append}
use borrow.Author.Tests.{lt-ltb, le-ltb}
use Rattle.std.specs.Prelude.{Result, Ok, Err}
use Rattle.graph.specs.declared.Refusal.{Refusal}
use Rattle.graph.specs.declared.Refusal.TheVariants.{NoRoom}
use Rattle.graph.specs.Check.{too_short}
use Rattle.graph.proofs.Refusals.{first_of_single, row_holds, row_passes}
use Rattle.lines.specs.Report.{Lines, Promise}

module _ (sheet page : List ℕ) (right : Lines sheet page) where
  -- "10: lent output too short"
  pub too_short_lem : (text : List ℕ) → length text < length page → Promise sheet text (Err NoRoom) text
  unfolding too_short
  too_short_lem text h =
      record {
        lines = page;
        right = right;
        refused = sym (first_of_single _ ∙ row_holds NoRoom (lt-ltb (length text) (length page) h));
        meant = refl;
      }

  pub written :
      (text : List ℕ) {after : List ℕ} → length page ≤ length text → after ≡ page ++ drop (length page) text →
      Promise sheet text (Ok (length page)) after
  unfolding too_short
  written text h put =
      record {
        lines = page;
        right = right;
        refused = sym (first_of_single _ ∙ row_passes NoRoom (le-ltb (length text) (length page) h));
        meant = (refl, put);
      }

-- for callers: what was written lies inside the text
pub size_inside :
    {sheet text after : List ℕ} {r : Result ℕ Refusal} {size : ℕ} → Promise sheet text r after → r ≡ Ok size →
    size ≤ length after
size_inside {sheet} {text} {after} {r} {size} told e =
    let p = subst (λ (x : Result ℕ Refusal). Promise sheet text x after) e told in
    omega (arith, p.meant.0, ap length p.meant.1, length-append p.lines (drop size text))
