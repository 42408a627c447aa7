-- Leaps: some generations of a board, run in windows that are all read first and put back afterwards.
use Rattle.std.specs.Prelude.{◌≡◌, ◌==◌, ◌+◌, ◌*◌, ◌<◌, ◌≤◌, ◌⊎◌, ℕ, ◌+ℤ◌, pos, All, List, length, slice_index, slice_index_or, []}
use Rattle.std.specs.Int.{bit_at}
use Rattle.plane_core.specs.declared.plane.bounds.Bounds.{Bounds}
use Rattle.plane_core.specs.declared.plane.cell.Cell.{Cell}
use Rattle.plane_core.specs.declared.engine.difference_box.DifferenceMask.{DifferenceMask}
use Rattle.plane_core.specs.declared.engine.frame.Frame.{Frame}
use Rattle.plane_core.specs.declared.engine.leap_window.LeapWindow.{LeapWindow}
use Rattle.plane_core.specs.plane.Bounds.{AreSidesWithin}
use Rattle.plane_core.specs.engine.ActiveBoxes.{HoldDifferences, box_bound}
use Rattle.plane_core.specs.plane.Cells.{InOrder, cell_at, has}
use Rattle.plane_core.specs.engine.Frames.{FillsFrame, IsFrame, Shows}
use Rattle.plane_core.specs.plane.Generations.{after}
use Rattle.plane_core.specs.engine.WindowIo.{bit_on, cell_on}
use Rattle.plane_core.specs.engine.LeapWindows.{MarksDifferences, IsInnerCell, IsOnBoard, compared_with}
use Rattle.plane_core.specs.plane.Rules.{Numbers}
use Rattle.plane_core.specs.windows.Windows.{IsShownInside}

-- in the inner part of the window with these rows, a cell is in the list exactly if its bit is 1
abbrev pub ShowsInner : LeapWindow → List ℕ → List Cell → Type 0
ShowsInner p rows cells = (r i : ℕ) → 4 ≤ r → r + 4 < p.rows → 4 ≤ i → i < 60
    → has cells (cell_at (p.left +ℤ pos i) (p.top +ℤ pos r)) ≡ (bit_at (slice_index rows r) i == 1)

-- the window can be read from the board, and run for `count` generations
pub record CanRun (at : Frame) (words : List ℕ) (p : LeapWindow) (count : ℕ) : Type 0 where
  pub frame : IsFrame at
  pub long : FillsFrame at words
  pub on_board : IsOnBoard at p
  pub some : 1 ≤ count
  pub few : count ≤ 4

-- A window of n vectors was run for `count` generations. In the new window, all cells at least four inside the border
-- are correct. The change marks where the last generation differs from the pattern that it is compared with.
abbrev pub IsRun : ℕ → Numbers → ℕ → List (List ℕ) → List (List ℕ) → DifferenceMask → Type 0
IsRun n rule count x y change = (p : LeapWindow) (cells : List Cell) → p.rows ≡ 4 * n → InOrder cells → IsShownInside n p.left p.top 0 x cells
    → IsShownInside n p.left p.top 4 y (after rule cells count) × MarksDifferences p (after rule cells count) (compared_with rule cells count) change

-- a window of the board was run: its inner part shows the board `count` generations later, and the change marks where
-- the last generation differs from the pattern that it is compared with
abbrev pub IsRunAt : Frame → List ℕ → Numbers → ℕ → LeapWindow → List ℕ → DifferenceMask → Type 0
IsRunAt at words rule count p rows change = (cells : List Cell) → InOrder cells → Shows at words cells
    → ShowsInner p rows (after rule cells count) × MarksDifferences p (after rule cells count) (compared_with rule cells count) change

-- Each window was run. If the last generation and the pattern that it is compared with differ in a cell of an inner
-- part, the cell is in one of the boxes.
pub record AreRun (at : Frame) (words : List ℕ) (rule : Numbers) (count : ℕ) (places : List LeapWindow) (held : List (List ℕ))
    (boxes : List Bounds) : Type 0 where
  pub long : length places ≤ length held
  pub run : (k : ℕ) (p : LeapWindow) (cells : List Cell) → k < length places → InOrder cells → Shows at words cells
      → ShowsInner (slice_index_or places k p) (slice_index_or held k []) (after rule cells count)
  pub differences : (cells : List Cell) → InOrder cells → Shows at words cells
      → HoldDifferences places (after rule cells count) (compared_with rule cells count) boxes
  pub sides : All (AreSidesWithin box_bound) boxes

-- the inner parts of the first `count` windows were put back: if all these parts show the pattern `cells`, each cell of
-- the board is now as in this pattern, or is in none of the parts and is unchanged
abbrev pub ArePutBack : Frame → List LeapWindow → List (List ℕ) → ℕ → List ℕ → List ℕ → Type 0
ArePutBack at places held count old new = (cells : List Cell)
    → ((k : ℕ) (p : LeapWindow) → k < count → ShowsInner (slice_index_or places k p) (slice_index_or held k []) cells)
    → (u v : ℕ) → u < 64 * at.word_columns → v < at.rows
    → (has cells (cell_on at u v) ≡ (bit_on at new u v == 1))
    ⊎ (((k : ℕ) (p : LeapWindow) → k < count → ¬ IsInnerCell (slice_index_or places k p) (cell_on at u v)) × (bit_on at new u v ≡ bit_on at old u v))
