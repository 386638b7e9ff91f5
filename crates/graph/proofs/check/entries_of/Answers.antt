use Rattle.std.proofs.Common.{rules}
use Rattle.graph.specs.Check.{entry, entries}
use Rattle.graph.proofs.check.entries_of.Goals as goal

pub returns : goal.returns
unfolding entries
returns c = c.row_by_row.ensures (entry c.args.n c.args.g.now) (λ i j r hi hj e. search rules)
