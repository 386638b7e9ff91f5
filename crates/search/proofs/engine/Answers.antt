-- `search::engine` meets its contract: the memory at the start stands for the root, and the tally at the end means the
-- answer. Assumes nothing.
use mathlib.Core.Path.{refl}
use native.Mathlib.Omega.{arith}
use Rattle.graph.specs.Graph.{row_edge}
use Rattle.repair.specs.Repair.{toll_of}
use Rattle.repair.proofs.Tolls.{tolls_positive}
use Rattle.graph.proofs.WordLaws.{copied_none}
use Rattle.bound.proofs.PriceLaws.{filled_none}
use Rattle.search.proofs.Safety.{pairs_small, within_more}
use Rattle.search.proofs.Starting.{ready_root, followed}
use Rattle.search.proofs.Ending.{meant}
use Rattle.search.proofs.engine.Goals as goal

pub lay_flat-requires : goal.lay_flat-requires
lay_flat-requires c = (copied_none c.args.rows).shape

pub fill-requires-clause-empty : goal.fill-requires-clause-empty
fill-requires-clause-empty c =
    filled_none _ _

pub node-t-requires : goal.node-t-requires
node-t-requires c =
    record {
      ready = ready_root _ _ c.requires c.lay_flat.ensures c.fill.ensures c.over.ensures refl c.args.most (omega (arith, c.ranges.most));
      steps_le_most = omega arith;
    }

pub told-requires : goal.told-requires
told-requires c =
    let d = c.node-t in
    let small = pairs_small c.args.n c.requires.few in
    (within_more d.result.kept d.ensures.sound.listed (omega (arith, small)), within_more d.result.kept d.ensures.sound.listed c.requires.room)

pub returns : goal.returns
returns c =
    let d = c.node-t in
    let told = c.told in
    meant c.args.prune c.args.n (row_edge c.args.rows) (toll_of c.args.prices.now) c.args.k c.args.most d.new.room.kept c.args.list.now d.result
    c.requires.graph (tolls_positive c.args.n c.args.prices.now c.requires.priced)
    (followed _ _ c.requires c.lay_flat.ensures c.fill.ensures c.over.ensures refl c.args.prune c.args.most d.result d.new.room.words d.new.room.cost d.new.room.path d.new.room.kept d.ensures) told.result told.new.list told.ensures
