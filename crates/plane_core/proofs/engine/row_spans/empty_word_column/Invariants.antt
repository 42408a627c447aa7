use Rattle.std.proofs.Common.{◌≡◌, ◌<◌, ◌≤◌, ℕ, slice_index}
use Rattle.plane_core.specs.engine.Frames.{word_of}
use Rattle.plane_core.proofs.lemmas.engine.RowSpanLemmas.{AreZeroed}
use Rattle.plane_core.proofs.engine.row_spans.empty_word_column.Given as goal

abbrev pub invariant-loop-row : goal.invariant-loop-row
invariant-loop-row l = record {
  dead : (r : ℕ) → l.fn.span.from ≤ r → r < l.row → slice_index l.words (word_of l.at l.word_column r) ≡ 0;
  others : AreZeroed l.fn.words l.words;
}
