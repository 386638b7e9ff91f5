-- `graph::check::entry_of` meets its contract: each return is one case of `entry`. Assumes nothing.
use native.Mathlib.Omega.{arith}
use Rattle.graph.proofs.CheckLaws.{inside, above_fault, unlike_fault, like_fine}
use Rattle.graph.proofs.check.entry_of.Goals as goal

pub overflow_mul-x : goal.overflow_mul-x
overflow_mul-x c =
    omega (arith, inside c.requires.n_bound c.requires.i_lt_n c.requires.j_lt_n)

pub overflow_add-x : goal.overflow_add-x
overflow_add-x c =
    omega (arith, inside c.requires.n_bound c.requires.i_lt_n c.requires.j_lt_n)

pub bounds-g-i : goal.bounds-g-i
bounds-g-i c =
    omega (arith, inside c.requires.n_bound c.requires.i_lt_n c.requires.j_lt_n)

pub overflow_mul-y : goal.overflow_mul-y
overflow_mul-y c =
    omega (arith, inside c.requires.n_bound c.requires.j_lt_n c.requires.i_lt_n)

pub overflow_add-y : goal.overflow_add-y
overflow_add-y c =
    omega (arith, inside c.requires.n_bound c.requires.j_lt_n c.requires.i_lt_n)

pub bounds-g-j : goal.bounds-g-j
bounds-g-j c =
    omega (arith, inside c.requires.n_bound c.requires.j_lt_n c.requires.i_lt_n)

pub returns-then-top-x : goal.returns-then-top-x
returns-then-top-x c =
    above_fault _ _ _ _ c.most-top.ensures c.if-top-x.true

pub returns-then-x-y : goal.returns-then-x-y
returns-then-x-y c =
    unlike_fault _ _ _ _ c.most-top.ensures c.if-top-x.false c.if-x-y.true

pub returns : goal.returns
returns c =
    like_fine _ _ _ _ c.most-top.ensures c.if-top-x.false c.if-x-y.false
