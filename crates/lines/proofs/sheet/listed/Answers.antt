-- `listed` meets its contract: the first scores, and the first entries of the graph and the prices, are lent on. Assumes nothing.
use Prim.Native.Nat.{ℕ}
use lib.ListN.{length-replicate}
use mir.Syntax.{w16}
use mir.ValLaws.{to_z-of_z}
use Rattle.lines.proofs.Drawing.{list_ready, list_paged}
use Rattle.lines.proofs.sheet.listed.Goals as goal

pub drawn-requires : goal.drawn-requires
drawn-requires c =
    record {
      ready = rw c.pairs_of-pairs.ensures (list_ready c.args.n c.args.list.now (to_z-of_z w16 c.args.t c.ranges.t) c.requires.n_bound.0 c.requires.n_bound.1 _ _ c.requires.t_value.0 c.requires.t_value.1 (length-replicate {A = ℕ} 16384 0) (length-replicate {A = ℕ} 16384 0));
      empty = c.requires.empty;
    }

pub returns : goal.returns
returns c =
    list_paged c.args.n c.args.list.now (to_z-of_z w16 c.args.t c.ranges.t) c.requires.n_bound.0 c.requires.n_bound.1 (rw c.pairs_of-pairs.ensures at c.drawn.ensures)
