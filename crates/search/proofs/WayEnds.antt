-- How one way ends: passed over, or entered and left again; what it leaves in each case. Assumes nothing.
use mathlib.Core.Path.{◌≡◌, refl, sym, ap, ◌∙◌, subst}
use mathlib.Core.Bool.{Bool, true, false}
use mathlib.Core.List.{List}
use Prim.Native.Nat.{ℕ, ◌+◌, ◌/◌, ◌%◌, ◌≤◌, ◌<◌}
use native.Mathlib.Omega.{arith}
use borrow.Author.Tests.{lt-ltb}
use lib.ListN.{length, get_or, take, drop, set}
use Rattle.std.proofs.Common.{length-append, length-take-le, ◌∷◌}
use Rattle.std.proofs.lemmas.List.{length-drop}
use Rattle.graph.specs.Price.{fixed}
use Rattle.graph.specs.Rows.{Toggled}
use Rattle.graph.proofs.WordLaws.{toggle_toggle}
use Rattle.repair.specs.Tree.{Node, add}
use Rattle.memory.specs.declared.Tally.{Tally}
use Rattle.memory.specs.Table.{Place, number_at, Marked}
use Rattle.search.specs.Memory.{open_pairs}
use Rattle.memory.specs.Trail.{Put, Closed}
use Rattle.search.specs.Memory.{At}
use Rattle.search.specs.declared.tree.Search.{Search}
use Rattle.search.specs.declared.room.Room.{Room}
use Rattle.search.specs.Steps.{IsReady, Ready, Back, NodeLeft, WayLeft}
use Rattle.search.proofs.Safety.{safe_enter, safe_room, open_falls}
use Rattle.search.proofs.States.{at_free, at_add}
use Rattle.search.proofs.AtWay.{enters, Opened, opened, way_shut, way_open}

-- a pair more stands on the path
pub longer : (x r : ℕ) (before after : List ℕ) → Put x before after r → length after ≡ length before + 1
longer x r before after put =
    omega (arith, ap length put.opened, length-append (take r before) (x ∷ drop r before), length-take-le r before put.inside, length-drop r before)

-- what is known of a way at which the pair at p is marked
pub record Marking (s : Search) (m : Room) (spent p : ℕ) (t : Tally) (cost' : List ℕ) (price : ℕ) : Type 0 where
  pub ready : IsReady s m spent t
  pub fits : p < 16384
  pub place : Place s.n p
  pub marked : Marked p m.cost cost' price

pub marking :
    (s : Search) (m : Room) {spent p : ℕ} {t : Tally} {cost' : List ℕ} {price : ℕ} →
    IsReady s m spent t → (p < 16384) × Place s.n p → Marked p m.cost cost' price →
    Marking s m spent p t cost' price
marking s m ready bound marked = record { ready = ready; fits = bound.0; place = bound.1; marked = marked }

module _
    {s : Search} {m : Room} {spent p : ℕ} {t : Tally} {cost' : List ℕ} {price : ℕ}
    (go : Marking s m spent p t cost' price)
  where
    inside : p < length m.cost
    inside = omega (arith, go.ready.safe.table)

    -- the test on the price that was told is the test on the table
    read : (b : Bool) → enters s.most price spent t ≡ b → enters s.most (get_or m.cost p 0) spent t ≡ b
    read b h = ap (λ c. enters s.most c spent t) (sym go.marked.told) ∙ h

    pub end_shut :
        enters s.most price spent t ≡ false →
        WayLeft s.n s.prune s.most m.words m.cost m.path m.kept spent p t t m.words cost' m.path m.kept
    end_shut shut =
        record {
          back = record { words_back = refl; cost_back = go.marked.stored; path_back = refl };
          sound = go.ready.sound;
          tried_out = λ e toll k f b o at fuel follows.
              way_shut s.prune k s.most f p t m.kept at go.ready.safe.few go.place inside o (read false shut) follows;
        }

    module _ (on : enters s.most price spent t ≡ true) where
      is : Opened s.most (get_or m.cost p 0) spent t
      is = opened s.most (get_or m.cost p 0) spent t (read true on)

      pub goes_on : t.steps ≤ s.most
      goes_on = is.running

      pub path_open : length m.path < 8128
      path_open = safe_room go.ready.safe p go.fits is.costs

      pub fewer_open : open_pairs s.n cost' < open_pairs s.n m.cost
      fewer_open = rw go.marked.stored (open_falls s.n m.cost p go.ready.safe.table go.fits go.ready.safe.few go.place is.costs)

      pub ready_node :
          (due : ℕ) (words₁ path₁ : List ℕ) → due ≡ spent + price → Toggled (p / 128) (p % 128) m.words words₁ →
          length path₁ ≡ length m.path + 1 → Ready s.n s.most words₁ cost' path₁ m.kept due t
      ready_node due words₁ path₁ owed toggled long =
          rw (owed, go.marked.stored, go.marked.told)
          (record {
            safe =
                safe_enter go.ready.safe p words₁ path₁ go.fits go.place is.costs
                (omega (arith, is.affordable, go.ready.sound.bounded)) toggled long;
            sound = go.ready.sound;
            large = go.ready.large;
          })

      module _
          (words₁ path₁ words₂ cost₂ path₂ kept₂ words₃ path₃ : List ℕ) (at due : ℕ) (r : Tally)
          (owed : due ≡ spent + price)
          (toggled : Toggled (p / 128) (p % 128) m.words words₁)
          (put : Put (number_at s.n p) m.path path₁ at)
          (did : NodeLeft s.n s.prune s.most words₁ cost' path₁ m.kept due t r words₂ cost₂ path₂ kept₂)
          (untoggled : Toggled (p / 128) (p % 128) words₂ words₃)
          (closed : Closed at path₂ path₃)
        where
          -- the pair is toggled back and taken out of the path
          restored : Back m.words (set m.cost p fixed) m.path words₃ cost₂ path₃
          restored =
              record {
                words_back =
                    toggle_toggle go.ready.safe.shape toggled
                    (subst (λ ws. Toggled (p / 128) (p % 128) ws words₃) did.back.words_back untoggled);
                cost_back = did.back.cost_back ∙ go.marked.stored;
                path_back =
                    closed (number_at s.n p) m.path put.inside (did.back.path_back ∙ put.opened);
              }

          -- the memory stands for the node below
          there :
              (e : ℕ → ℕ → Bool) (toll : ℕ → ℕ) (b : Node) → At s.n e toll b m.words m.cost m.path spent →
              At s.n e toll (add b (number_at s.n p)) words₁ cost' path₁ due
          there e toll b here =
              let free = at_free here p go.ready.safe.few go.place inside ∙ lt-ltb (get_or m.cost p 0) fixed is.costs in
              rw (owed, go.marked.stored, go.marked.told) (at_add here p go.ready.safe.few go.place inside words₁ path₁ at free toggled put)

          pub end_entered : WayLeft s.n s.prune s.most m.words m.cost m.path m.kept spent p t r words₃ cost₂ path₃ kept₂
          end_entered =
              record {
                back = restored;
                sound = did.sound;
                tried_out = λ e toll k f b o here fuel follows.
                    way_open s.prune k s.most f p t m.kept here go.ready.safe.few go.place inside o r kept₂ fuel (read true on) follows
                    (λ u fuel' same. did.walked e toll k f (add b (number_at s.n p)) u (there e toll b here) fuel' same);
              }
