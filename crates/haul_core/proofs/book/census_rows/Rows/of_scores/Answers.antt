use Rattle.haul_core.proofs.CensusLemmas.{in_order_from, rows_from}
use Rattle.haul_core.proofs.book.census_rows.Rows.of_scores.Goals as goal

pub invariant_of-result : goal.invariant_of-result
invariant_of-result c = in_order_from c.in_ok-kept.kept c.in_ok-rows.rows.items c.in_ok-rows.ensures.ordered c.in_ok-rows.ensures.rows

pub returns : goal.returns
returns c = rows_from c.args.scores.now.entries c.in_ok-kept.kept c.in_ok-rows.rows.items c.in_ok-rows.ensures.ordered c.in_ok-rows.ensures.rows c.in_ok-kept.ensures
