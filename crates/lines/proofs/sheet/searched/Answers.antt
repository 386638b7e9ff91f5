-- `searched` meets its contract: it is not refused and finds a repair, unless it is stopped. Assumes nothing.
use Prim.Native.Nat.{ℕ}
use native.Mathlib.Omega.{arith}
use mathlib.Core.Path.{refl}
use lib.ListN.{length-replicate}
use Rattle.lines.proofs.Behind.{room_alone, put_alone}
use Rattle.lines.proofs.Bounds.{stopped_short}
use Rattle.lines.proofs.Searching.{not_refused, not_nothing, stopped, repaired, stopped_paged, repaired_paged, page_room, list_right, graph_right}
use Rattle.lines.proofs.sheet.searched.Goals as goal

pub mended-requires : goal.mended-requires
mended-requires c =
    let room = length-replicate {A = ℕ} 8128 0 in
    let told = rw c.in-Ok-Repaired.field-0-is at c.in-Ok-Repaired.ensures in
    let best = repaired c.args.n c.args.graph.now c.args.prices.now _ c.requires.checked room told refl in
    record {
      n_bound = graph_right c.args.n c.args.graph.now c.args.prices.now _ c.requires.checked room best;
      repair_value = list_right c.args.n c.args.graph.now c.args.prices.now _ c.requires.checked room best;
      repair_in_bounds = room_alone c.requires.empty _ (page_room c.args.n c.args.graph.now c.args.prices.now _ c.requires.checked room best);
    }

pub one-requires : goal.one-requires
one-requires c =
    let room = length-replicate {A = ℕ} 8128 0 in
    let told = rw c.in-Ok-Stopped.field-0-is at c.in-Ok-Stopped.ensures in
    let over = stopped c.args.n c.args.graph.now c.args.prices.now _ c.requires.checked room told refl in
    room_alone c.requires.empty _ (stopped_short c.in-Ok-Stopped.steps (omega (arith, over.limit)))

pub returns-in-Ok-Repaired : goal.returns-in-Ok-Repaired
returns-in-Ok-Repaired c =
    let room = length-replicate {A = ℕ} 8128 0 in
    let told = rw c.in-Ok-Repaired.field-0-is at c.in-Ok-Repaired.ensures in
    let best = repaired c.args.n c.args.graph.now c.args.prices.now _ c.requires.checked room told refl in
    repaired_paged c.args.n c.args.graph.now c.args.prices.now _ c.requires.checked room best (put_alone c.requires.empty c.mended.ensures)

pub returns-in-Ok-Stopped : goal.returns-in-Ok-Stopped
returns-in-Ok-Stopped c =
    let room = length-replicate {A = ℕ} 8128 0 in
    let told = rw c.in-Ok-Stopped.field-0-is at c.in-Ok-Stopped.ensures in
    let over = stopped c.args.n c.args.graph.now c.args.prices.now _ c.requires.checked room told refl in
    stopped_paged c.args.n c.args.graph.now c.args.prices.now _ c.requires.checked room over (put_alone c.requires.empty c.one.ensures)

pub unreachable-requires : goal.unreachable-requires
unreachable-requires c =
    not_nothing c.args.n c.args.graph.now c.args.prices.now _ c.requires.checked (length-replicate {A = ℕ} 8128 0)
    (rw c.in-Ok-Nothing.field-0-is at c.in-Ok-Nothing.ensures) refl

pub unreachable-requires-in-Err : goal.unreachable-requires-in-Err
unreachable-requires-in-Err c =
    not_refused c.args.n c.args.graph.now c.args.prices.now _ c.requires.checked (length-replicate {A = ℕ} 8128 0) c.in-Err.ensures refl
