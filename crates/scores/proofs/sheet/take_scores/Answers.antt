use Prim.Native.Nat.{ℕ}
use lib.IntN.{ℤ, pos}
use mathlib.Core.Path.{sym, ◌∙◌}
use Rattle.scores.proofs.Complement.{back}
use Rattle.scores.proofs.Pasting.{part_more, part_complete}
use Rattle.scores.proofs.Squares.{length_each, each_at}
use Rattle.scores.specs.Inner.{scores_in}
use Rattle.scores.specs.Scale.{half}
use Rattle.scores.specs.Sheet.{score_at}
use Rattle.scores.proofs.sheet.take_scores.Goals as goal

pub loop-k-preserved : goal.loop-k-preserved
loop-k-preserved c =
    let l = c.loop-k in
    let n : ℕ = c.args.n in
    let f : ℕ → ℤ = score_at c.args.sheet.now c.args.p in
    let v = back c.score_at.result c.score_at.type_inv ∙ c.score_at.ensures in
    let h = c.pairs_of.ensures in
    part_more c.args.scores.now (scores_in c.args.sheet.now c.args.p n) (length_each (half n) f) h c.requires.n_in_bounds l.k l.invariant (pos 0)
    c.loop-k-test.true (λ few. v ∙ sym (each_at (half n) f l.k (pos 0) few))

pub returns : goal.returns
returns c =
    let l = c.loop-k in
    let n : ℕ = c.args.n in
    let f : ℕ → ℤ = score_at c.args.sheet.now c.args.p in
    part_complete c.args.scores.now (scores_in c.args.sheet.now c.args.p n) (length_each (half n) f) c.pairs_of.ensures c.requires.n_in_bounds l.k l.invariant
    l.auto.k-end c.loop-k-test.false
