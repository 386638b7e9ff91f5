-- `bound::lay::touched_of` meets its contract: three pairs, and three more. Assumes nothing.
use mathlib.Core.Path.{◌≡◌, refl}
use mathlib.Core.Bool.{◌||◌}
use Rattle.graph.specs.Graph.{word_edge}
use Rattle.bound.proofs.Touch.{three_more, last_more}
use Rattle.bound.proofs.lay.touched_of.Goals as goal
use Rattle.bound.proofs.lay.touched_of.Goals.{Joined-adjacent, then-shut, else-shut, then-adjacent, else-adjacent}

-- what is known after the first two of the three
two_more :
    (c : Joined-adjacent) →
    (c.if-shut.value ≡ (c.shut.result || word_edge c.args.taken.now c.args.q.a c.args.q.d))
    × (c.if-adjacent.value ≡ (c.if-shut.value || word_edge c.args.taken.now c.args.q.b c.args.q.d))
two_more c = (
  elim c.if-shut.branch [
    | then-shut w ↦ rw (w.value-is, w.if-shut.true) refl
    | else-shut w ↦ rw (w.value-is, w.if-shut.false, w.adjacent.ensures) refl
  ],
  elim c.if-adjacent.branch [
    | then-adjacent w ↦ rw (w.value-is, w.if-adjacent.true) refl
    | else-adjacent w ↦ rw (w.value-is, w.if-adjacent.false, w.adjacent-else-adjacent.ensures) refl
  ],
)

pub returns-then-adjacent-2 : goal.returns-then-adjacent-2
returns-then-adjacent-2 c =
    let s = two_more (goal.at.returns-then-adjacent-2 c).Joined-adjacent in
    three_more _ _ _ _ (word_edge c.args.taken.now) c.shut.ensures s.0 s.1 c.if-adjacent-2.true

pub returns-else-adjacent-2 : goal.returns-else-adjacent-2
returns-else-adjacent-2 c =
    let s = two_more (goal.at.returns-else-adjacent-2 c).Joined-adjacent in
    last_more _ _ _ _ (word_edge c.args.taken.now) c.shut.ensures s.0 s.1 c.if-adjacent-2.false c.adjacent-else-adjacent-2.ensures
