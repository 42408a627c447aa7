-- Windows on the plane, and which of their cells are still correct after up to four generations.
use Rattle.std.specs.Prelude.{◌≡◌, ◌==◌, ◌+◌, ◌-◌, ◌/◌, ◌%◌, ◌<◌, ◌≤◌, ℕ, ◌+ℤ◌, ◌<ℤ◌, ◌≤ℤ◌, pos, List, [], Any, if◌then◌else◌}
use Rattle.std.specs.Int.{bit_at}
use Rattle.plane_core.specs.declared.engine.difference_box.DifferenceMask.{DifferenceMask}
use Rattle.plane_core.specs.declared.plane.cell.Cell.{Cell}
use Rattle.plane_core.specs.declared.engine.frame.Frame.{Frame}
use Rattle.plane_core.specs.declared.engine.leap_window.LeapWindow.{LeapWindow}
use Rattle.plane_core.specs.plane.Cells.{cell_at, has}
use Rattle.plane_core.specs.plane.Generations.{after}
use Rattle.plane_core.specs.plane.Rules.{Numbers}

-- the cell is in the inner part of the window: in columns 4 to 59, and not in the first four or the last four rows
pub record IsInnerCell (p : LeapWindow) (c : Cell) : Type 0 where
  pub left : (p.left +ℤ pos 4) ≤ℤ c.x
  pub top : (p.top +ℤ pos 4) ≤ℤ c.y
  pub right : c.x ≤ℤ (p.left +ℤ pos 59)
  pub bottom : (c.y +ℤ pos 4) <ℤ (p.top +ℤ pos p.rows)

-- the cell is in the inner part of one of the windows
abbrev pub IsCovered : List LeapWindow → Cell → Type 0
IsCovered places c = Any (λ p. IsInnerCell p c) places

-- The whole window, of 8 to 64 rows, is on the board. It begins in column x and row y of the board, and the board has
-- another word column to the right of the one in which the window begins.
pub record IsOnBoard (at : Frame) (p : LeapWindow) : Type 0 where
  pub x : ℕ
  pub y : ℕ
  pub left : p.left ≡ at.left +ℤ pos x
  pub top : p.top ≡ at.top +ℤ pos y
  pub word_columns : x / 64 + 1 < at.word_columns
  pub rows : y + p.rows ≤ at.rows
  pub some : 8 ≤ p.rows
  pub few : p.rows ≤ 64

-- the two patterns agree in the cell in column i and row r of the window
abbrev pub IsSameAt : LeapWindow → List Cell → List Cell → ℕ → ℕ → Type 0
IsSameAt p one other i r = has one (cell_at (p.left +ℤ pos i) (p.top +ℤ pos r)) ≡ has other (cell_at (p.left +ℤ pos i) (p.top +ℤ pos r))

-- the pattern with which the last generation of a leap is compared: the generation two earlier, or the empty pattern if
-- the number of generations is odd
abbrev pub compared_with : Numbers → List Cell → ℕ → List Cell
compared_with rule cells n = if n % 2 == 0 then after rule cells (n - 2) else []

-- if the two patterns differ in an inner cell of the window, `change` marks the cell's column and its row
pub record MarksDifferences (p : LeapWindow) (one other : List Cell) (change : DifferenceMask) : Type 0 where
  pub columns : (i r : ℕ) → 4 ≤ i → i < 60 → 4 ≤ r → r + 4 < p.rows → bit_at change.columns i ≡ 0 → IsSameAt p one other i r
  pub rows : (i r : ℕ) → 4 ≤ i → i < 60 → 4 ≤ r → r + 4 < p.rows → bit_at change.rows r ≡ 0 → IsSameAt p one other i r
