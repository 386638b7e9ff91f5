-- How a node ends: stopped, left, with a repair found, or with its ways tried; what it leaves in each case. Assumes nothing.
use mathlib.Core.Path.{◌≡◌, refl, subst⁻¹}
use mathlib.Core.Bool.{Bool, true, false, ◌&&◌}
use mathlib.Core.List.{List}
use Prim.Native.Nat.{ℕ, ◌+◌, ◌≤◌, ◌<◌}
use native.Mathlib.Omega.{arith}
use lib.Dec.{ltb}
use lib.ListN.{length}
use Rattle.bits.specs.Choice.{pick}
use Rattle.graph.specs.declared.Quad.{Quad}
use Rattle.std.specs.Prelude.{None, Some}
use Rattle.graph.specs.Graph.{word_edge}
use Rattle.graph.specs.Quad.{quads, first}
use Rattle.graph.proofs.Quads.{Named, listed_named, first_listed}
use Rattle.repair.specs.Packing.{pairs_of, packing}
use Rattle.memory.specs.declared.Tally.{Tally}
use Rattle.bound.specs.Table.{toll_at, free_at}
use Rattle.memory.specs.Tally.{improves, Entered, Kept, Within}
use Rattle.search.specs.Memory.{pairs, Sound}
use Rattle.search.specs.Steps.{Ready, Back, Six, NodeLeft, WaysLeft}
use Rattle.search.proofs.Safety.{pairs_small, within_more, within_as}
use Rattle.search.proofs.Placing.{places_six}
use Rattle.search.proofs.AtNode.{node_stopped, node_found, node_left, node_branched}

-- the first quad's vertices are below n
pub quad_inside : (n : ℕ) (words : List ℕ) (q : Quad) → first (quads n (word_edge words)) ≡ Some q → Named n (word_edge words) q
quad_inside n words q h = listed_named n (word_edge words) q (first_listed n (word_edge words) q h)

pub untouched : (words cost path : List ℕ) → Back words cost path words cost path
untouched words cost path = record { words_back = refl; cost_back = refl; path_back = refl }

module _
    {n most : ℕ} {words cost path kept : List ℕ} {spent : ℕ} {t here : Tally}
    (prune : Bool)
    (ready : Ready n most words cost path kept spent t)
    (running : t.steps ≤ most)
    (step : Entered t here)
  where
    sound_here : Sound n most here
    sound_here =
        record {
          counted = omega (arith, step.counted);
          bounded = omega (arith, step.limited, ready.sound.bounded);
          listed = rw step.held ready.sound.listed;
        }

    pub ready_here : Ready n most words cost path kept spent here
    ready_here = record { safe = ready.safe; sound = sound_here; large = ready.large }

    -- the kept list has room
    pub kept_room : length path ≤ length kept
    kept_room = omega (arith, ready.safe.room, ready.safe.wide, pairs_small n ready.safe.few)

    pub kept_fits : Within here.kept (length kept)
    kept_fits = within_more here.kept sound_here.listed (omega (arith, ready.safe.wide, pairs_small n ready.safe.few))

    pub end_stopped :
        most < here.steps →
        NodeLeft n prune most words cost path kept spent t here words cost path kept
    end_stopped over =
        record {
          back = untouched words cost path;
          sound = sound_here;
          walked = λ e toll k f s o at fuel same. node_stopped prune at same step f fuel over;
        }

    module _ (l : here.steps ≤ most) where
      sound_kept : (after : List ℕ) (r : Tally) → Kept path kept after spent here r → Sound n most r
      sound_kept after r keep = go (improves path kept spent here) keep.new_limit keep.new_kept
        where
          go :
              (b : Bool) → r.limit ≡ pick b spent here.limit → r.kept ≡ pick b (Some (length path)) here.kept → Sound n most r
          go true a b =
              record {
                counted = omega (arith, keep.same_steps);
                bounded = omega (arith, ready.safe.paid);
                listed = within_as (pairs n) b (omega (arith, ready.safe.room));
              }
          go false a b =
              record {
                counted = omega (arith, keep.same_steps);
                bounded = omega (arith, sound_here.bounded);
                listed = within_as (pairs n) b sound_here.listed;
              }

      pub end_found :
          (after : List ℕ) (r : Tally) → first (quads n (word_edge words)) ≡ None →
          Kept path kept after spent here r →
          NodeLeft n prune most words cost path kept spent t r words cost path after
      end_found after r clear keep =
          record {
            back = untouched words cost path;
            sound = sound_kept after r keep;
            walked = λ e toll k f s o at fuel same. node_found prune at same step l f r after fuel clear keep;
          }

      module _ (q : Quad) (quad : first (quads n (word_edge words)) ≡ Some q) where
        abbrev leaves : Bool
        leaves = prune && ltb here.limit (spent + packing n (free_at n cost) (toll_at n cost) (quads n (word_edge words)))

        pub end_left :
            leaves ≡ true → NodeLeft n prune most words cost path kept spent t here words cost path kept
        end_left h =
            record {
              back = untouched words cost path;
              sound = sound_here;
              walked = λ e toll k f s o at fuel same. node_left prune at same step l q quad f fuel h;
            }

        pub six_places : (places : List ℕ) → places ≡ pairs_of 128 q → Six n places
        six_places places h =
            subst⁻¹ (Six n) h (places_six n (word_edge words) ready.safe.few q (quad_inside n words q quad))

        pub end_ways :
            (places : List ℕ) (r : Tally) (words' cost' path' kept' : List ℕ) → leaves ≡ false → places ≡ pairs_of 128 q →
            WaysLeft n prune most words cost path kept spent places here r words' cost' path' kept' →
            NodeLeft n prune most words cost path kept spent t r words' cost' path' kept'
        end_ways places r words' cost' path' kept' h is did =
            record {
              back = did.back;
              sound = did.sound;
              walked = λ e toll k f s o at fuel same.
                  node_branched prune at same step l q quad f r kept' ready.safe.few fuel h
                  (λ f' o' fuel' same'. rw is at (did.branched e toll k f' s o' at fuel' same'));
            }
