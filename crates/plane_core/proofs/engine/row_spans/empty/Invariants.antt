use Rattle.std.proofs.Common.{◌≡◌, ◌≤◌, ℕ}
use Rattle.plane_core.specs.engine.RowSpans.{span_of}
use Rattle.plane_core.proofs.lemmas.engine.RowSpanLemmas.{AreWordColumnsDead, AreZeroed}
use Rattle.plane_core.proofs.engine.row_spans.empty.Given as goal

abbrev pub invariant-loop-word_column : goal.invariant-loop-word_column
invariant-loop-word_column l = record {
  kept : (s : ℕ) → l.word_column ≤ s → span_of l.spans s ≡ span_of l.fn.spans s;
  dead : AreWordColumnsDead l.at l.words l.word_column;
  others : AreZeroed l.fn.words l.words;
}
