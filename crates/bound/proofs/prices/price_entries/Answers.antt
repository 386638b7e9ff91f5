use Rattle.std.proofs.Common.{rules}
use Rattle.graph.specs.Price.{price_entry, price_entries}
use Rattle.bound.proofs.prices.price_entries.Goals as goal

pub returns : goal.returns
unfolding price_entries
returns c = c.row_by_row.ensures (price_entry c.args.n c.args.prices.now) (λ i j r hi hj e. search rules)
