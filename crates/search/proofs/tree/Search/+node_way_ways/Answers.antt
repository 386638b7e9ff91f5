-- The procedure that calls itself at each node meets its contract: `node`, `ways` and `way`. Each ends in a lemma over plain
-- values, in NodeEnds, WaysEnds and WayEnds. The falling number is the count of free pairs, three to a node. Assumes nothing.
use Rattle.search.proofs.NodeEnds.{
  quad_inside,
  ready_here,
  kept_room,
  kept_fits,
  end_stopped,
  end_found,
  end_left,
  six_places,
  end_ways,
}
use Rattle.search.proofs.WayEnds.{marking, end_shut, goes_on, longer, path_open, fewer_open, ready_node, end_entered}
use Rattle.search.proofs.WaysEnds.{trying_none, trying_more, trying_end}
use mathlib.Core.Path.{sym, ap, ◌∙◌}
use lib.ListN.{length}
use native.Mathlib.Omega.{arith}
use Rattle.search.proofs.tree.Search.+node_way_ways.Goals as goal

pub node-returns-then-self-here : goal.node-returns-then-self-here
node-returns-then-self-here t c =
    end_stopped c.args.self.now.prune c.requires.ready c.requires.steps_le_most c.entered-here.ensures c.if-self-here.true

pub node-keep-requires : goal.node-keep-requires
node-keep-requires t c =
    let r = c.requires.ready in
    let step = c.entered-here.ensures in
    (kept_room c.args.self.now.prune r c.requires.steps_le_most step, kept_fits c.args.self.now.prune r c.requires.steps_le_most step)

pub node-returns-then-leaves : goal.node-returns-then-leaves
node-returns-then-leaves t c =
    end_left c.args.self.now.prune c.requires.ready c.requires.steps_le_most c.entered-here.ensures c.if-self-here.false
    c.in-Some.q (sym c.first_quad.ensures ∙ c.in-Some.is)
    (sym c.leaves.ensures ∙ c.if-leaves.true)

pub node-places-requires : goal.node-places-requires
node-places-requires t c =
    let i = quad_inside c.args.self.now.n c.args.room.now.words c.in-Some.q (sym c.first_quad.ensures ∙ c.in-Some.is) in
    let few = c.requires.ready.safe.few in
    (omega (arith, i.a_in), omega (arith, i.b_in), omega (arith, i.c_in), omega (arith, i.d_in))

pub node-ways-requires : goal.node-ways-requires
node-ways-requires t c =
    let r = c.requires.ready in
    let step = c.entered-here.ensures in (
      omega arith,
      (
        ready_here c.args.self.now.prune r c.requires.steps_le_most step,
        six_places c.args.self.now.prune r c.requires.steps_le_most step c.if-self-here.false c.in-Some.q (sym c.first_quad.ensures ∙ c.in-Some.is) c.places.result c.places.ensures,
      ),
    )

pub node-returns-in-None : goal.node-returns-in-None
node-returns-in-None t c =
    end_found c.args.self.now.prune c.requires.ready c.requires.steps_le_most c.entered-here.ensures c.if-self-here.false
    c.keep.new.kept c.keep.result (sym c.first_quad.ensures ∙ c.in-None.is) c.keep.ensures

pub node-returns-else-leaves : goal.node-returns-else-leaves
node-returns-else-leaves t c =
    let w = c.ways in
    end_ways c.args.self.now.prune c.requires.ready c.requires.steps_le_most c.entered-here.ensures c.if-self-here.false
    c.in-Some.q (sym c.first_quad.ensures ∙ c.in-Some.is) c.places.result w.result
    w.new.room.words w.new.room.cost w.new.room.path w.new.room.kept (sym c.leaves.ensures ∙ c.if-leaves.false) c.places.ensures w.ensures

pub way-returns-then-not-opens : goal.way-returns-then-not-opens
way-returns-then-not-opens t c =
    let go = marking c.args.self.now c.args.room.now c.requires.ready c.requires.p_bound c.mark-price.ensures in
    end_shut go (sym c.opens.ensures ∙ c.if-not-opens.true)

pub way-enter-at-requires : goal.way-enter-at-requires
way-enter-at-requires t c =
    let go = marking c.args.self.now c.args.room.now c.requires.ready c.requires.p_bound c.mark-price.ensures in
    let on = sym c.opens.ensures ∙ c.if-not-opens.false in
    let safe = c.requires.ready.safe in
    record {
      words_len = (safe.shape.many, path_open go on, safe.few, c.requires.p_bound.0);
      place = c.requires.p_bound.1;
    }

pub way-node-after-requires : goal.way-node-after-requires
way-node-after-requires t c =
    let go = marking c.args.self.now c.args.room.now c.requires.ready c.requires.p_bound c.mark-price.ensures in
    let on = sym c.opens.ensures ∙ c.if-not-opens.false in
    let e = c.enter-at in (
      omega (arith, fewer_open go on),
      (
        ready_node go on c.paid.result e.new.words e.new.path c.paid.ensures e.ensures.toggled (longer _ _ _ _ e.ensures.put),
        goes_on go on,
      ),
    )

pub way-leave-requires : goal.way-leave-requires
way-leave-requires t c =
    let go = marking c.args.self.now c.args.room.now c.requires.ready c.requires.p_bound c.mark-price.ensures in
    let on = sym c.opens.ensures ∙ c.if-not-opens.false in
    let safe = c.requires.ready.safe in
    let e = c.enter-at in
    record {
      words_len = (
        omega arith,
        safe.few,
        c.requires.p_bound.0,
      );
      place = c.requires.p_bound.1;
      at_inside = omega (arith, e.ensures.put.inside, longer _ _ _ _ e.ensures.put, ap length c.node-after.ensures.back.path_back);
    }

pub way-returns : goal.way-returns
way-returns t c =
    let go = marking c.args.self.now c.args.room.now c.requires.ready c.requires.p_bound c.mark-price.ensures in
    let on = sym c.opens.ensures ∙ c.if-not-opens.false in
    let e = c.enter-at in
    let due = c.paid in
    let d = c.node-after in
    let l = c.leave in
    end_entered go on
    e.new.words e.new.path d.new.room.words d.new.room.cost d.new.room.path d.new.room.kept l.new.words l.new.path
    e.result due.result d.result due.ensures e.ensures.toggled e.ensures.put d.ensures l.ensures.toggled l.ensures.closed

pub ways-loop-p-init : goal.ways-loop-p-init
ways-loop-p-init t c =
    trying_none c.requires.ready c.requires.six

pub ways-loop-p-preserved : goal.ways-loop-p-preserved
ways-loop-p-preserved t c =
    let so = c.loop-p.invariant in
    let w = c.way-tally in
    trying_more c.requires.ready c.requires.six so w.new.room.words w.new.room.cost w.new.room.path w.new.room.kept w.result
    c.loop-p-test.true (w.new.room.kept_len ∙ sym so.ready.safe.wide) w.ensures

pub ways-returns : goal.ways-returns
ways-returns t c =
    let so = c.loop-p.invariant in
    trying_end c.requires.ready c.requires.six so c.restore.new.cost c.loop-p-test.false
    (c.restore.ensures c.args.room.now.cost c.costs-old.ensures so.apart)
