-- Whether an engine leaves a node, read from the table: the packing over the table's costs is the node's. Assumes nothing.
use mathlib.Core.Path.{◌≡◌, refl, sym, ap, ap₂, ◌∙◌}
use mathlib.Core.Bool.{Bool, true, false, ◌&&◌}
use mathlib.Core.List.{List}
use Prim.Native.Nat.{ℕ, ◌+◌}
use lib.Dec.{ltb}
use Rattle.graph.specs.Graph.{word_edge}
use Rattle.graph.specs.Quad.{quads}
use Rattle.walk.specs.Walk.{plain}
use Rattle.repair.specs.Packing.{packing}
use Rattle.repair.specs.Tree.{Node, present, free, pruned, engine}
use Rattle.bound.specs.Table.{toll_at, free_at}
use Rattle.search.specs.Memory.{At}
use Rattle.bound.proofs.Alike.{packing_agrees}

module _
    {n : ℕ} {e : ℕ → ℕ → Bool} {toll : ℕ → ℕ} {s : Node} {words cost path : List ℕ} {spent : ℕ}
    (h : At n e toll s words cost path spent)
  where
    packing_read :
        packing n (free_at n cost) (toll_at n cost) (quads n (word_edge words)) ≡
        packing n (free n toll s) toll (quads n (present n e s))
    packing_read =
        ap (λ g. packing n (free_at n cost) (toll_at n cost) (quads n g)) h.edges ∙
        packing_agrees n (free_at n cost) (free n toll s) (toll_at n cost) toll (present n e s) h.opens
        (λ x pair open-here. h.tolls x (sym (h.opens x pair) ∙ open-here))

    -- "The pruned engine leaves the node if price plus packing bound exceeds the limit."
    pub engine_read :
        (prune : Bool) (limit : ℕ) →
        engine n e toll prune s limit ≡
        (prune && ltb limit (spent + packing n (free_at n cost) (toll_at n cost) (quads n (word_edge words))))
    engine_read false limit = unfold plain in refl
    engine_read true limit =
        unfold pruned in ap₂ (λ a b. ltb limit (a + b)) (sym h.price) (sym packing_read)
