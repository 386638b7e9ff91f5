-- `search::either` meets its contract: what is refused, or what the engine answers over the rows of the bytes.
-- Assumes nothing.
use Rattle.std.proofs.Common.{rules, ◌≡◌, Err, sym, ◌∙◌}
use Rattle.graph.specs.Graph.{row_edge}
use Rattle.graph.proofs.Reading.{entries_graph}
use Rattle.search.proofs.Refusing.{Passed, passed}
use Rattle.search.proofs.Ending.{promised, refused}
use Rattle.search.proofs.either.Goals as goal
use Rattle.search.proofs.either.Goals.{In_ok-check}

pub returns-in_err-check : goal.returns-in_err-check
returns-in_err-check c =
    let back : c.from_residual.result ≡ Err c.in_err-check.field-0.0 = search rules in
    rw back (refused _ _ _ _ _ _ _ _ (sym c.in_err-check.was ∙ c.check.ensures))

passes : (c : In_ok-check) → Passed c.args.n c.args.graph.now c.args.prices.now c.args.k c.args.list.now
passes c = passed _ _ _ _ _ (sym c.check.ensures ∙ c.in_ok-check.was)

pub rows_of-rows-requires : goal.rows_of-rows-requires
rows_of-rows-requires c =
    let ok = passes (goal.at.rows_of-rows-requires c).In_ok-check in
    record { n_bound = ok.few; g_len = ok.square }

pub engine-requires : goal.engine-requires
engine-requires c =
    let ok = passes (goal.at.engine-requires c).In_ok-check in
    record {
      few = ok.few;
      graph = rw c.rows_of-rows.ensures.edges (entries_graph c.args.n c.args.graph.now ok.drawn);
      long = ok.long;
      priced = ok.priced;
      within = ok.within_budget;
      room = ok.room;
    }

pub returns : goal.returns
returns c =
    promised _ _ _ _ _ _ _ (row_edge c.rows_of-rows.result) _ _ c.rows_of-rows.ensures.edges
    (sym c.check.ensures ∙ c.in_ok-check.was) c.engine.ensures
