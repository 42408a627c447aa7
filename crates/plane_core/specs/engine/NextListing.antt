-- How the next generation of a board is made in windows, and how its live cells are listed. Column u and row v of a
-- board count from its first column and row.
use Rattle.std.specs.Prelude.{◌≡◌, ◌==◌, ◌+◌, ◌/◌, ◌<◌, ◌≤◌, ℕ, ◌+ℤ◌, ◌<ℤ◌, pos, All, Any, List, slice_index, true}
use Rattle.std.specs.Int.{bit_at}
use Rattle.plane_core.specs.declared.engine.frame.Frame.{Frame}
use Rattle.plane_core.specs.declared.engine.board.next_pattern.NextRows.{NextRows}
use Rattle.plane_core.specs.declared.plane.cell.Cell.{Cell}
use Rattle.plane_core.specs.plane.Cells.{InOrder, has}
use Rattle.plane_core.specs.plane.Generations.{after}
use Rattle.plane_core.specs.plane.Rules.{Numbers}
use Rattle.plane_core.specs.declared.engine.row_spans.Hull.{Hull}
use Rattle.plane_core.specs.engine.Frames.{LieOn, Shows, board_cell}
use Rattle.plane_core.specs.engine.RowSpans.{IsInHull}
use Rattle.plane_core.specs.engine.Listing.{AreAmong}
use Rattle.plane_core.specs.engine.WindowIo.{IsInnerColumn, cell_on}

-- in the inner part of a window that begins in column x and row y of the board, the rows show the pattern
abbrev pub ShowsInnerRows : Frame → ℕ → ℕ → List ℕ → List Cell → Type 0
ShowsInnerRows at x y rows cells = (r i : ℕ) → 4 ≤ r → r < 36 → 4 ≤ i → i < 60
    → has cells (cell_on at (x + i) (y + r)) ≡ (bit_at (slice_index rows r) i == 1)

-- in the inner part of the window, the rows show the board's pattern, one generation later
abbrev pub AreNextRows : Frame → List ℕ → Numbers → ℕ → ℕ → List ℕ → Type 0
AreNextRows at words rule x y rows = (cells : List Cell) → InOrder cells → Shows at words cells → ShowsInnerRows at x y rows (after rule cells 1)

-- the window shows the pattern in its inner part, and the board has another word column to the right of the one in
-- which the window begins
pub record IsNextWindowOf (at : Frame) (y : ℕ) (cells : List Cell) (window : NextRows) : Type 0 where
  pub word_columns : window.x / 64 + 1 < at.word_columns
  pub shown : ShowsInnerRows at window.x y window.rows cells

-- the windows show the band of 32 rows from row y + 4 on: each live cell of the band in the columns from `from` to
-- before `end` is in an inner column of one of the windows
pub record AreBandOf (at : Frame) (y from end : ℕ) (cells : List Cell) (windows : List NextRows) : Type 0 where
  pub each : All (IsNextWindowOf at y cells) windows
  pub covered : (u v : ℕ) → y + 4 ≤ v → v < y + 36 → from ≤ u → u < end → has cells (cell_on at u v) ≡ true → Any (λ window. IsInnerColumn window.x u) windows

-- the inner rows before row n of all windows have been listed: their live cells, and only cells of the pattern, have
-- been added to the list
pub record HasListedRows (at : Frame) (y n : ℕ) (cells : List Cell) (windows : List NextRows) (old new : List Cell) : Type 0 where
  pub grows : AreAmong new old
  pub sound : AreAmong cells old → AreAmong cells new
  pub complete : (u r : ℕ) → 4 ≤ r → r < n → Any (λ window. IsInnerColumn window.x u) windows → has cells (cell_on at u (y + r)) ≡ true
      → has new (cell_on at u (y + r)) ≡ true

-- all live cells above row v of the board have been listed, and only live cells
pub record HasListedAbove (at : Frame) (v : ℕ) (cells new : List Cell) : Type 0 where
  pub sound : AreAmong cells new
  pub complete : (c : Cell) → has cells c ≡ true → c.y <ℤ (at.top +ℤ pos v) → has new c ≡ true

-- each live cell of the board is in the hull
abbrev pub LiesInHull : Frame → Hull → List Cell → Type 0
LiesInHull at hull cells = (s r i : ℕ) → s < at.word_columns → r < at.rows → i < 64 → has cells (board_cell at s r i) ≡ true → IsInHull hull s r

-- the hull isn't empty, and the board has a word column on each side of the hull, at least five rows above it, and at
-- least one row below it
pub record HasRim (at : Frame) (hull : Hull) : Type 0 where
  pub left : 1 ≤ hull.word_columns.from
  pub columns : hull.word_columns.from < hull.word_columns.end
  pub right : hull.word_columns.end < at.word_columns
  pub top : 5 ≤ hull.rows.from
  pub rows : hull.rows.from < hull.rows.end
  pub bottom : hull.rows.end < at.rows

-- the list has exactly the cells of the pattern, all of which are on the board
pub record AreOnBoard (at : Frame) (cells new : List Cell) : Type 0 where
  pub same : (c : Cell) → has new c ≡ has cells c
  pub on : LieOn at cells
