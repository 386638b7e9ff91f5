-- The packing reads prices and freedom of the quads' pairs alone: where two agree on all pairs of the vertices, the bounds
-- are equal. So the table of costs gives the bound of the prices that it was made from. Assumes nothing.
use mathlib.Core.Path.{◌≡◌, refl, sym, ◌∙◌, ap, ap₂}
use mathlib.Core.Logic.{◌⊎◌, inl, inr, ◌≢◌}
use mathlib.Core.Bool.{Bool, true, not, ◌&&◌, ◌||◌}
use mathlib.Core.List.{List, [], ◌∷◌, ◌++◌, Memᴰ}
use Prim.Native.Nat.{ℕ, ◌+◌, ◌*◌, ◌/◌, ◌%◌, ◌≤◌, ◌<◌, min}
use native.Mathlib.Nat.{div-add-mod', mod-lt}
use native.Mathlib.Omega.{arith}
use lib.ListN.{get_or}
use lib.Dec.{ltb, eqb}
use borrow.Author.Tests.{lt-ltb, le-ltb, ltb-true, eq-eqb, ne_eqb}
use Rattle.bits.specs.Choice.{pick}
use Rattle.bits.proofs.Truth.{and_in, and_left, and_right, and_off_right, not_in, not_off, equal}
use Rattle.graph.specs.declared.Quad.{Quad}
use Rattle.std.specs.Prelude.{Ok}
use Rattle.graph.specs.Each.{only}
use Rattle.graph.specs.Price.{fixed, price_entries}
use Rattle.graph.specs.Quad.{quads}
use Rattle.graph.proofs.Facts.{Apart, quad_induced}
use Rattle.graph.proofs.Quads.{Named, listed_named}
use Rattle.repair.specs.Pair.{is_pair, changeable, member, all}
use Rattle.repair.specs.Repair.{toll_of}
use Rattle.repair.specs.Packing.{pairs_of, those, share, lowest, hopeless, empty, stuck, packed, packing}
use Rattle.repair.proofs.Numbers.{pair_is}
use Rattle.repair.proofs.Tolls.{some_vertex, tolls_within}
use Rattle.repair.proofs.Sets.{member_here, member_there, all_at, those_out}
use Rattle.bound.specs.Table.{toll_at, free_at}
use Rattle.bound.specs.Costs.{Costs}
use Rattle.bound.proofs.PriceLaws.{cost_pair}

-- equal on every member
abbrev Like : {A : Type 0} → (ℕ → A) → (ℕ → A) → List ℕ → Type 0
Like f g xs = (x : ℕ) → member x xs ≡ true → f x ≡ g x

those_like : (f g : ℕ → Bool) (xs : List ℕ) → Like f g xs → those f xs ≡ those g xs
unfolding those
those_like f g [] h = refl
those_like f g (x ∷ xs) h =
    ap₂ ◌++◌ (ap (λ t. only t x) (h x (member_here x xs))) (those_like f g xs (λ y m. h y (member_there y x xs m)))

lowest_like : (f g : ℕ → ℕ) (xs : List ℕ) → Like f g xs → lowest f xs ≡ lowest g xs
unfolding lowest
lowest_like f g [] h = refl
lowest_like f g (x ∷ []) h = h x (member_here x [])
lowest_like f g (x ∷ y ∷ ys) h =
    ap₂ min (h x (member_here x (y ∷ ys))) (lowest_like f g (y ∷ ys) (λ z m. h z (member_there z x (y ∷ ys) m)))

module _ (n : ℕ) (free free' : ℕ → Bool) (toll toll' : ℕ → ℕ) where
  -- free alike on the six pairs, and of one price where free
  pub record Agrees (q : Quad) : Type 0 where
    pub frees : Like free free' (pairs_of n q)
    pub tolls : (x : ℕ) → member x (pairs_of n q) ≡ true → free x ≡ true → toll x ≡ toll' x

  abbrev pub AllAgree : List Quad → Type 0
  AllAgree qs = (q : Quad) → Memᴰ q qs → Agrees q

  module _ (q : Quad) (A : Agrees q) where
    mine : those free (pairs_of n q) ≡ those free' (pairs_of n q)
    mine = those_like free free' (pairs_of n q) A.frees

    cheap : lowest toll (those free (pairs_of n q)) ≡ lowest toll' (those free' (pairs_of n q))
    cheap =
        lowest_like toll toll' (those free (pairs_of n q)) (λ x m.
        let o = those_out free x (pairs_of n q) m in
        A.tolls x o.0 o.1) ∙
        ap (lowest toll') mine

  stuck_like : (qs : List Quad) → AllAgree qs → stuck n free qs ≡ stuck n free' qs
  unfolding stuck
  stuck_like [] h = refl
  stuck_like (q ∷ qs) h =
      ap₂ ◌||◌ (ap empty (mine q (h q (Memᴰ.head refl)))) (stuck_like qs (λ p m. h p (Memᴰ.tail m)))

  packed_like : (taken : List ℕ) (qs : List Quad) → AllAgree qs → packed n free toll taken qs ≡ packed n free' toll' taken qs
  unfolding packed
  packed_like taken [] h = refl
  packed_like taken (q ∷ qs) h =
      choice (ap (λ xs. share xs taken) (mine q A)) (packed_like taken qs later)
      (ap₂ ◌+◌ (cheap q A)
      (packed_like (those free (pairs_of n q) ++ taken) qs later ∙
      ap (λ xs. packed n free' toll' (xs ++ taken) qs) (mine q A)))
    where
      A : Agrees q
      A = h q (Memᴰ.head refl)

      later : AllAgree qs
      later p m = h p (Memᴰ.tail m)

      choice : {t t' : Bool} {x x' y y' : ℕ} → t ≡ t' → x ≡ x' → y ≡ y' → pick t x y ≡ pick t' x' y'
      choice e f k = λ i. pick (e i) (f i) (k i)

  packing_like : (qs : List Quad) → AllAgree qs → packing n free toll qs ≡ packing n free' toll' qs
  unfolding packing
  packing_like qs h = ap₂ (λ t p. pick t hopeless p) (stuck_like qs h) (packed_like [] qs h)

  -- a number that is one of a quad's six is the number of a pair
  six_pairs : (e : ℕ → ℕ → Bool) (q : Quad) → Named n e q → (x : ℕ) → member x (pairs_of n q) ≡ true → is_pair n x ≡ true
  six_pairs e q N x m = all_at (is_pair n) x (pairs_of n q) six m
    where
      A : Apart q.a q.b q.c q.d
      A = (quad_induced e q.a q.b q.c q.d N.quad).apart

      six : all (is_pair n) (pairs_of n q) ≡ true
      six =
          unfold all pairs_of in
          and_in (pair_is n q.a q.b N.a_in N.b_in A.ab)
          (and_in (pair_is n q.a q.c N.a_in N.c_in A.ac)
          (and_in (pair_is n q.a q.d N.a_in N.d_in A.ad)
          (and_in (pair_is n q.b q.c N.b_in N.c_in A.bc)
          (and_in (pair_is n q.b q.d N.b_in N.d_in A.bd)
          (and_in (pair_is n q.c q.d N.c_in N.d_in A.cd) refl)))))

  -- free alike on all pairs, and of one price where free: the bounds are equal
  pub packing_agrees :
      (e : ℕ → ℕ → Bool) → ((x : ℕ) → is_pair n x ≡ true → free x ≡ free' x) →
      ((x : ℕ) → is_pair n x ≡ true → free x ≡ true → toll x ≡ toll' x) →
      packing n free toll (quads n e) ≡ packing n free' toll' (quads n e)
  packing_agrees e f t =
      packing_like (quads n e) (λ q m.
      let N = listed_named n e q m in
      record { frees = λ x k. f x (six_pairs e q N x k); tolls = λ x k. t x (six_pairs e q N x k) })

-- the table of costs made from prices
module _ (n : ℕ) (few : n ≤ 128) (prices cost : List ℕ) (C : Costs n prices cost) (ok : price_entries n prices ≡ Ok tt) where
  module _ (x : ℕ) (h : is_pair n x ≡ true) where
    low : x / n < x % n
    unfolding is_pair
    low = ltb-true (x / n) (x % n) (and_right (ltb x (n * n)) (ltb (x / n) (x % n)) h)

    inside : x < n * n
    unfolding is_pair
    inside = ltb-true x (n * n) (and_left (ltb x (n * n)) (ltb (x / n) (x % n)) h)

    pub toll_made : toll_at n cost x ≡ toll_of prices x
    unfolding toll_at
    toll_made =
        let high = mod-lt x (some_vertex n x inside) in
        let i_in = low in
        C.each (x / n * 128 + x % n) (omega arith) ∙ sym (cost_pair n prices (x / n) (x % n) low high few) ∙
        ap (λ p. get_or prices p 0) (div-add-mod' x n)

    pub free_made : free_at n cost x ≡ changeable n (toll_of prices) x
    unfolding free_at changeable
    free_made = go (equal (toll_of prices x) fixed)
      where
        go :
            (toll_of prices x ≡ fixed) ⊎ (toll_of prices x ≢ fixed) →
            ltb (toll_at n cost x) fixed ≡ (is_pair n x && not (eqb (toll_of prices x) fixed))
        go (inl e) =
            le-ltb (toll_at n cost x) fixed (omega (arith, toll_made)) ∙
            sym (and_off_right (is_pair n x) (not_off (eq-eqb (toll_of prices x) fixed e)))
        go (inr d) =
            let c = and_in h (not_in (ne_eqb (toll_of prices x) fixed d)) in
            lt-ltb (toll_at n cost x) fixed (omega (arith, toll_made, (tolls_within n prices ok x c).1)) ∙ sym c

  -- gives the bound of the prices
  pub packing_made :
      (e : ℕ → ℕ → Bool) →
      packing n (free_at n cost) (toll_at n cost) (quads n e) ≡
      packing n (changeable n (toll_of prices)) (toll_of prices) (quads n e)
  packing_made e =
      packing_agrees n (free_at n cost) (changeable n (toll_of prices)) (toll_at n cost) (toll_of prices) e free_made
      (λ x h f. toll_made x h)
