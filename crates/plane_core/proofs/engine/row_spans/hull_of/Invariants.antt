use Rattle.plane_core.specs.engine.RowSpans.{HoldsSpans}
use Rattle.plane_core.proofs.engine.row_spans.hull_of.Given as goal

abbrev pub invariant-loop-word_column : goal.invariant-loop-word_column
invariant-loop-word_column l = HoldsSpans l.spans l.word_column l.hull
