use Rattle.plane_core.proofs.lemmas.engine.WindowDifferenceLemmas.{DifferInColumns, DifferInRows}
use Rattle.plane_core.proofs.engine.window_difference.difference_of.Given as goal

abbrev pub invariant-loop-k : goal.invariant-loop-k
invariant-loop-k g l = record {
  columns : DifferInColumns g.row.N l.one l.other l.columns l.k;
  rows : DifferInRows g.row.N l.one l.other l.rows l.k;
}
