-- What the first list that says something says. A reading `h` of lists is leading where `h (xs ++ ys)` is `h xs`, or `h ys`
-- where `h xs` is nothing. The laws of such a reading of `each`, for the first quad and for the first check that finds
-- something. Assumes nothing.
use mathlib.Core.Path.{◌≡◌, refl, sym, ◌∙◌, ap}
use mathlib.Core.Logic.{◌⊎◌, inl, inr, ◌≢◌}
use mathlib.Core.List.{List, [], ◌∷◌, ◌++◌}
use Prim.Native.Nat.{ℕ, zero, suc, ◌<◌}
use native.Mathlib.Omega.{arith}
use Rattle.graph.specs.declared.Quad.{Quad}
use Rattle.std.specs.Prelude.{Option, Some, None, Ok, Err}
use Rattle.graph.specs.declared.Refusal.{Refusal}
use Rattle.graph.specs.Each.{each}
use Rattle.graph.specs.Refusal.{Finding, first_of}
use Rattle.graph.specs.Quad.{first}
use Rattle.graph.proofs.Listing.{below_suc}

pub record Leading {A M : Type 0} (nothing : M) (h : List A → M) : Type 0 where
  pub empty : h [] ≡ nothing
  pub skips : (xs ys : List A) → h xs ≡ nothing → h (xs ++ ys) ≡ h ys
  pub stays : (xs ys : List A) → h xs ≢ nothing → h (xs ++ ys) ≡ h xs
  pub decides : (m : M) → (m ≡ nothing) ⊎ (m ≢ nothing)

-- the k-th says something, and none before it does
pub record Leads {A M : Type 0} (nothing : M) (h : List A → M) (f : ℕ → List A) (n : ℕ) (m : M) : Type 0 where
  pub place : ℕ
  pub within : place < n
  pub says : h (f place) ≡ m
  pub earlier : (j : ℕ) → j < place → h (f j) ≡ nothing

module _ {A M : Type 0} {nothing : M} {h : List A → M} (lead : Leading nothing h) where
  pub each_nothing : (n : ℕ) (f : ℕ → List A) → ((k : ℕ) → k < n → h (f k) ≡ nothing) → h (each n f) ≡ nothing
  unfolding each
  each_nothing zero f p = lead.empty
  each_nothing (suc n) f p =
      lead.skips (each n f) (f n) (each_nothing n f (λ k l. p k (omega arith))) ∙ p n (omega arith)

  pub append_nothing : (xs ys : List A) → h (xs ++ ys) ≡ nothing → (h xs ≡ nothing) × (h ys ≡ nothing)
  append_nothing xs ys p = go (lead.decides (h xs))
    where
      go : (h xs ≡ nothing) ⊎ (h xs ≢ nothing) → (h xs ≡ nothing) × (h ys ≡ nothing)
      go (inl q) = (q, sym (lead.skips xs ys q) ∙ p)
      go (inr q) = absurd (q (sym (lead.stays xs ys q) ∙ p))

  pub nothing_each : (n : ℕ) (f : ℕ → List A) → h (each n f) ≡ nothing → (k : ℕ) → k < n → h (f k) ≡ nothing
  unfolding each
  nothing_each zero f p k l = absurd (omega arith)
  nothing_each (suc n) f p k l = go (nothing_each n f (append_nothing (each n f) (f n) p).0 k) (below_suc l)
    where
      go : (k < n → h (f k) ≡ nothing) → (k ≡ n) ⊎ (k < n) → h (f k) ≡ nothing
      go below (inl q) = ap (λ x. h (f x)) q ∙ (append_nothing (each n f) (f n) p).1
      go below (inr l') = below l'

  pub each_leads : (n : ℕ) (f : ℕ → List A) (m : M) → m ≢ nothing → Leads nothing h f n m → h (each n f) ≡ m
  unfolding each
  each_leads zero f m some L = absurd (let l = L.within in omega arith)
  each_leads (suc n) f m some L = go (each_leads n f m some) (below_suc L.within)
    where
      go : (Leads nothing h f n m → h (each n f) ≡ m) → (L.place ≡ n) ⊎ (L.place < n) → h (each n f ++ f n) ≡ m
      go below (inl p) =
          lead.skips (each n f) (f n) (each_nothing n f (λ k l. L.earlier k (rw p l))) ∙ ap (λ x. h (f x)) (sym p) ∙
          L.says
      go below (inr l) =
          let q = below (record { place = L.place; within = l; says = L.says; earlier = L.earlier }) in
          lead.stays (each n f) (f n) (λ z. some (sym q ∙ z)) ∙ q

  pub leads_each : (n : ℕ) (f : ℕ → List A) (m : M) → m ≢ nothing → h (each n f) ≡ m → Leads nothing h f n m
  unfolding each
  leads_each zero f m some p = absurd (some (sym p ∙ lead.empty))
  leads_each (suc n) f m some p = go (leads_each n f m some) (lead.decides (h (each n f)))
    where
      go :
          (h (each n f) ≡ m → Leads nothing h f n m) → (h (each n f) ≡ nothing) ⊎ (h (each n f) ≢ nothing) →
          Leads nothing h f (suc n) m
      go below (inl q) =
          record {
            place = n;
            within = omega arith;
            says = sym (lead.skips (each n f) (f n) q) ∙ p;
            earlier = nothing_each n f q;
          }
      go below (inr q) =
          let L = below (sym (lead.stays (each n f) (f n) q) ∙ p) in
          let l = L.within in
          record { place = L.place; within = omega arith; says = L.says; earlier = L.earlier }

pub some_not_none : {q : Quad} → Some q ≢ None
some_not_none {q} p = let z : ◌≡◌ {A = ℕ} 0 1 = cc in omega arith

-- the first quad of a listing
pub first_leading : Leading None first
first_leading = record { empty = refl; skips = skips; stays = stays; decides = decides }
  where
    skips : (xs ys : List Quad) → first xs ≡ None → first (xs ++ ys) ≡ first ys
    skips [] ys p = refl
    skips (x ∷ xs) ys p = absurd (some_not_none p)

    stays : (xs ys : List Quad) → first xs ≢ None → first (xs ++ ys) ≡ first xs
    stays [] ys p = absurd (p refl)
    stays (x ∷ xs) ys p = refl

    decides : (m : Option Quad) → (m ≡ None) ⊎ (m ≢ None)
    decides (Some q) = inr some_not_none
    decides None = inl refl

pub fault_not_fine : {r : Refusal} → ◌≢◌ {A = Finding} (Err r) (Ok tt)
fault_not_fine {r} p = let z : ◌≡◌ {A = ℕ} 0 1 = cc in omega arith

-- the first check that finds something
pub first_of_leading : Leading (Ok tt) first_of
unfolding first_of
first_of_leading = record { empty = refl; skips = skips; stays = stays; decides = decides }
  where
    skips : (xs ys : List Finding) → first_of xs ≡ Ok tt → first_of (xs ++ ys) ≡ first_of ys
    skips [] ys p = refl
    skips (Ok done ∷ xs) ys p = skips xs ys p
    skips (Err r ∷ xs) ys p = absurd (fault_not_fine p)

    stays : (xs ys : List Finding) → first_of xs ≢ Ok tt → first_of (xs ++ ys) ≡ first_of xs
    stays [] ys p = absurd (p refl)
    stays (Ok done ∷ xs) ys p = stays xs ys p
    stays (Err r ∷ xs) ys p = refl

    decides : (m : Finding) → (m ≡ Ok tt) ⊎ (m ≢ Ok tt)
    decides (Err r) = inr fault_not_fine
    decides (Ok done) = inl refl
