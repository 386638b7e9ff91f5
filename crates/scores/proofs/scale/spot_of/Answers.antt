-- `spot_of` meets its contract: either way round the pair has one place, below n(n-1)/2. Assumes nothing.
use native.Mathlib.Omega.{arith}
use Rattle.scores.proofs.Places.{half_small, spot_at}
use Rattle.scores.proofs.scale.spot_of.Goals as goal

pub overflow_add-result : goal.overflow_add-result
overflow_add-result c =
    let r = c.requires in
    record { fits = omega (arith, spot_at c.args.n c.args.i c.args.j r.i_lt_n r.j_lt_n r.apart c.min.ensures c.earlier_of.ensures, half_small c.args.n r.n_bound) }

pub returns : goal.returns
returns c =
    let r = c.requires in
    let at = spot_at c.args.n c.args.i c.args.j r.i_lt_n r.j_lt_n r.apart c.min.ensures c.earlier_of.ensures in
    (omega arith, omega arith)
