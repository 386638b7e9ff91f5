-- B1: the packing bound never exceeds the price of any repair; with marks, of any set of free pairs that cleans the
-- graph. Every quad has a pair of such a set, since a quad none of whose pairs is toggled stays. Assumes nothing.
use mathlib.Core.Path.{◌≡◌, ◌∙◌}
use mathlib.Core.Logic.{◌⊎◌, inl, inr}
use mathlib.Core.Bool.{Bool, true, false}
use mathlib.Core.List.{List}
use Prim.Native.Nat.{ℕ, ◌≤◌}
use Rattle.bits.proofs.Truth.{never, which}
use Rattle.graph.specs.declared.Quad.{Quad}
use Rattle.graph.specs.Quad.{is_quad, quads, Clean}
use Rattle.graph.proofs.Facts.{quad_induced, induced_quad}
use Rattle.graph.proofs.Quads.{Named, listed_named}
use Rattle.repair.specs.Pair.{pair_of, changeable, member, all}
use Rattle.repair.specs.Better.{price}
use Rattle.repair.specs.Repair.{toggled, Repair}
use Rattle.repair.specs.Packing.{pairs_of, share, stuck, packing}
use Rattle.repair.proofs.Sets.{member_here, member_there, all_at, those_in, share_out, unshared}
use Rattle.repair.proofs.Packs.{Meets, MeetsAll, meets_unstuck, packing_bounded}
use Rattle.repair.proofs.Toggling.{toggled_stays}

-- the pairs by which a quad is one are among its six
module _ (n : ℕ) (q : Quad) where
  ab_of : member (pair_of n q.a q.b) (pairs_of n q) ≡ true
  unfolding pairs_of
  ab_of = member_here _ _

  ac_of : member (pair_of n q.a q.c) (pairs_of n q) ≡ true
  unfolding pairs_of
  ac_of = member_there _ _ _ (member_here _ _)

  bc_of : member (pair_of n q.b q.c) (pairs_of n q) ≡ true
  unfolding pairs_of
  bc_of = member_there _ _ _ (member_there _ _ _ (member_there _ _ _ (member_here _ _)))

  bd_of : member (pair_of n q.b q.d) (pairs_of n q) ≡ true
  unfolding pairs_of
  bd_of = member_there _ _ _ (member_there _ _ _ (member_there _ _ _ (member_there _ _ _ (member_here _ _))))

  cd_of : member (pair_of n q.c q.d) (pairs_of n q) ≡ true
  unfolding pairs_of
  cd_of = member_there _ _ _ (member_there _ _ _ (member_there _ _ _ (member_there _ _ _ (member_there _ _ _ (member_here _ _)))))

module _ (n : ℕ) (e : ℕ → ℕ → Bool) (xs : List ℕ) where
  -- a quad none of whose pairs is toggled stays
  quad_stays :
      (q : Quad) → share (pairs_of n q) xs ≡ false → is_quad e q.a q.b q.c q.d ≡ true →
      is_quad (toggled n e xs) q.a q.b q.c q.d ≡ true
  quad_stays q apart is =
      let i = quad_induced e q.a q.b q.c q.d is in
      induced_quad (toggled n e xs) q.a q.b q.c q.d
      (record {
        apart = i.apart;
        ab = stays q.a q.b (ab_of n q) ∙ i.ab;
        bc = stays q.b q.c (bc_of n q) ∙ i.bc;
        cd = stays q.c q.d (cd_of n q) ∙ i.cd;
        ac = stays q.a q.c (ac_of n q) ∙ i.ac;
        bd = stays q.b q.d (bd_of n q) ∙ i.bd;
      })
    where
      stays : (i j : ℕ) → member (pair_of n i j) (pairs_of n q) ≡ true → toggled n e xs i j ≡ e i j
      stays i j m = toggled_stays n e xs i j (unshared (pair_of n i j) (pairs_of n q) xs apart m)

  -- "Every repair of a graph with a quad includes one of the six": a set that cleans has a pair of each quad
  pub record Includes (q : Quad) : Type 0 where
    pub pair : ℕ
    pub of_quad : member pair (pairs_of n q) ≡ true
    pub of_set : member pair xs ≡ true

  pub clean_includes : Clean n (toggled n e xs) → (q : Quad) → Named n e q → Includes q
  clean_includes clean q is = go (which (share (pairs_of n q) xs))
    where
      go : (share (pairs_of n q) xs ≡ true) ⊎ (share (pairs_of n q) xs ≡ false) → Includes q
      go (inl h) = let (x, m, k) = share_out (pairs_of n q) xs h in record { pair = x; of_quad = m; of_set = k }
      go (inr h) =
          never (quad_stays q h is.quad)
          (clean q.a q.b q.c q.d is.a_in is.b_in is.c_in is.d_in)

  module _ (free : ℕ → Bool) (allowed : all free xs ≡ true) (clean : Clean n (toggled n e xs)) where
    meets_all : MeetsAll n free xs (quads n e)
    meets_all q m = meets (clean_includes clean q (listed_named n e q m))
      where
        meets : Includes q → Meets n free xs q
        meets i =
            record {
              pair = i.pair;
              of_quad = those_in free i.pair (pairs_of n q) i.of_quad (all_at free i.pair xs allowed i.of_set);
              of_list = i.of_set;
            }

    -- B1, with marks: "any set of free pairs that cleans the present graph"
    pub bound_free : (toll : ℕ → ℕ) → packing n free toll (quads n e) ≤ price toll xs
    bound_free toll = packing_bounded n free toll xs (quads n e) meets_all

    -- "If any has no free pair": then no set of free pairs cleans the graph
    pub stuck_never : stuck n free (quads n e) ≡ true → ⊥
    stuck_never h = never h (meets_unstuck n free xs (quads n e) meets_all)

-- B1: "The bound never exceeds the price of any repair." "Asked for a graph by itself, nothing is marked."
pub bound_repair :
    (n : ℕ) (e : ℕ → ℕ → Bool) (toll : ℕ → ℕ) (r : List ℕ) → Repair n e toll r →
    packing n (changeable n toll) toll (quads n e) ≤ price toll r
bound_repair n e toll r is = bound_free n e r (changeable n toll) is.allowed is.cleans toll

-- a graph with a quad: every repair has one of its six pairs
pub repair_includes :
    (n : ℕ) (e : ℕ → ℕ → Bool) (toll : ℕ → ℕ) (r : List ℕ) → Repair n e toll r → (q : Quad) → Named n e q →
    Includes n e r q
repair_includes n e toll r is = clean_includes n e r is.cleans
