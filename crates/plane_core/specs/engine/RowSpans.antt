-- Which rows of each word column of a board may have a live cell.
use Rattle.std.specs.Prelude.{◌≡◌, ◌<◌, ◌≤◌, ℕ, List, length, slice_index_or, true}
use Rattle.plane_core.specs.declared.plane.cell.Cell.{Cell}
use Rattle.plane_core.specs.declared.engine.frame.Frame.{Frame}
use Rattle.plane_core.specs.declared.engine.leap_window.LeapWindow.{LeapWindow}
use Rattle.plane_core.specs.declared.engine.row_spans.Hull.{Hull}
use Rattle.plane_core.specs.declared.engine.row_spans.RowSpan.{RowSpan}
use Rattle.plane_core.specs.plane.Cells.{has}
use Rattle.plane_core.specs.engine.Frames.{board_cell}
use Rattle.plane_core.specs.engine.LeapWindows.{IsCovered}

-- the number is in the span
pub record HasRow (span : RowSpan) (n : ℕ) : Type 0 where
  pub low : span.from ≤ n
  pub high : n < span.end

-- the span of word column s, or an empty span if there is no such word column
abbrev pub span_of : List RowSpan → ℕ → RowSpan
span_of spans s = slice_index_or spans s (record { from = 0; end = 0 })

-- row r is in the span of word column s
abbrev pub IsInSpan : List RowSpan → ℕ → ℕ → Type 0
IsInSpan spans s r = HasRow (span_of spans s) r

-- each live cell of the board is in the span of its word column
abbrev pub LieInSpans : Frame → List RowSpan → List Cell → Type 0
LieInSpans at spans cells = (s r i : ℕ) → s < at.word_columns → r < at.rows → i < 64 → has cells (board_cell at s r i) ≡ true → IsInSpan spans s r

-- if a cell of the board is in the inner part of one of the windows, its row is in the span of its word column
abbrev pub HoldCovered : Frame → List RowSpan → List LeapWindow → Type 0
HoldCovered at spans places = (s r i : ℕ) → s < at.word_columns → r < at.rows → i < 64 → IsCovered places (board_cell at s r i) → IsInSpan spans s r

-- each row in an old span is in the new span of the same word column
abbrev pub AreWidened : List RowSpan → List RowSpan → Type 0
AreWidened old new = (s r : ℕ) → IsInSpan old s r → IsInSpan new s r

-- the spans of a board that shows these cells: one for each word column, with every row in which it has a live cell
pub record AreSpans (at : Frame) (cells : List Cell) (spans : List RowSpan) : Type 0 where
  pub word_columns : length spans ≡ at.word_columns
  pub live : LieInSpans at spans cells

-- only the word columns in the range `word_columns` have rows in their spans
abbrev pub LieInWordColumns : Frame → List RowSpan → RowSpan → Type 0
LieInWordColumns at spans word_columns = (s r : ℕ) → s < at.word_columns → IsInSpan spans s r → HasRow word_columns s

-- row r of word column s is in the hull
pub record IsInHull (hull : Hull) (s r : ℕ) : Type 0 where
  pub word_column : HasRow hull.word_columns s
  pub row : HasRow hull.rows r

-- all rows of the first n spans are in the hull
abbrev pub HoldsSpans : List RowSpan → ℕ → Hull → Type 0
HoldsSpans spans n hull = (s r : ℕ) → s < n → IsInSpan spans s r → IsInHull hull s r
