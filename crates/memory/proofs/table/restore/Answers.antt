use Rattle.std.proofs.Common.{◌≡◌, ℕ, ◌+◌, ◌<◌, ◌∷◌, [], ◌++◌, length, ◌∙◌, arith, length-set, length-append, drop_of_length-le}
use Rattle.std.proofs.lemmas.Slice.Zip.{zip_turn, zip_end}
use Rattle.memory.proofs.Marking.{apart_back, apart_none}
use Rattle.memory.proofs.table.restore.Goals as goal

pub loop-p-preserved : goal.loop-p-preserved
loop-p-preserved c =
    let l = c.loop-p in
    let p = c.in-Some.p in
    let was = c.in-Some.was in
    let turn = zip_turn c.args.places c.args.old l.yielded c.into_iter-p-iterator.result l.p-iterator c.next.new.self c.next.result (cc) (cc) l.yielded_by (p, was) c.in-Some.is c.next.ensures.steps in
    let w : ℕ = length l.yielded in
    let here : w < 6 = omega (arith, c.requires.1) in
    let next : length (l.yielded ++ (p, was) ∷ []) ≡ w + 1 = length-append l.yielded ((p, was) ∷ []) in (
      length-set l.cost p.now was.now ∙ l.invariant.0,
      λ first told apart.
          rw (next, turn.2 0)
          (apart_back c.args.places first l.cost w was.now turn.0 (omega (arith, c.requires.2 w here)) (turn.3 0 ∙ told.each w here) (l.invariant.1 first told apart)),
    )

pub returns : goal.returns
returns c =
    let l = c.loop-p in
    let end = zip_end c.args.places c.args.old l.yielded c.into_iter-p-iterator.result l.p-iterator c.next.new.self c.next.result (cc) (cc) l.yielded_by c.in-None.is c.next.ensures.steps in
    let none = drop_of_length-le c.args.places {i = length l.yielded} (omega (arith, c.requires.0, c.requires.1)) in
    λ first told apart. apart_none first l.cost (rw none at (l.invariant.1 first told apart))
