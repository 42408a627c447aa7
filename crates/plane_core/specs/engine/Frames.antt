-- A board: a rectangle of cells in word columns of 64 columns, with a word for each row of each word column. Its frame
-- says where the cells are on the plane.
use Rattle.std.specs.Prelude.{◌≡◌, ◌==◌, ◌+◌, ◌*◌, ◌/◌, ◌<◌, ◌≤◌, ◌^◌, ℕ, ◌+ℤ◌, ◌-ℤ◌, pos, List, length, slice_index, true, unsigned_abs}
use Rattle.std.specs.Int.{bit_at}
use Rattle.plane_core.specs.declared.plane.bounds.Bounds.{Bounds}
use Rattle.plane_core.specs.declared.engine.frame.Frame.{Frame}
use Rattle.plane_core.specs.declared.plane.cell.Cell.{Cell}
use Rattle.plane_core.specs.plane.Bounds.{AreSidesWithin, IsWithin}
use Rattle.plane_core.specs.plane.Cells.{cell_at, has, plane_bound}

-- the cell at bit i of row r of word column s
abbrev pub board_cell : Frame → ℕ → ℕ → ℕ → Cell
board_cell at s r i = cell_at (at.left +ℤ pos (64 * s + i)) (at.top +ℤ pos r)

-- the place of row r of word column s in the list of words
abbrev pub word_of : Frame → ℕ → ℕ → ℕ
word_of at s r = s * at.rows + r

-- the board shows the list of cells: a cell of the board is in the list exactly if its bit is 1
abbrev pub Shows : Frame → List ℕ → List Cell → Type 0
Shows at words cells = (s r i : ℕ) → s < at.word_columns → r < at.rows → i < 64
    → has cells (board_cell at s r i) ≡ (bit_at (slice_index words (word_of at s r)) i == 1)

-- a frame: it begins within 2^21 of the origin, and has at most 2^16 word columns and 2^22 rows, in bands of eight
pub record IsFrame (at : Frame) : Type 0 where
  pub left : unsigned_abs at.left ≤ 2 ^ 21
  pub top : unsigned_abs at.top ≤ 2 ^ 21
  pub word_columns : at.word_columns ≤ 2 ^ 16
  pub rows : at.rows ≤ 2 ^ 22
  pub bands : at.rows ≡ 8 * (at.rows / 8)

-- the rectangle of the board
abbrev pub bounds_of : Frame → Bounds
bounds_of at = record {
  left = at.left;
  top = at.top;
  right = at.left +ℤ (pos (64 * at.word_columns) -ℤ pos 1);
  bottom = at.top +ℤ (pos at.rows -ℤ pos 1);
}

-- a frame of one word column and 64 rows, on the plane
pub record IsViewFrame (at : Frame) : Type 0 where
  pub frame : IsFrame at
  pub plane : AreSidesWithin plane_bound (bounds_of at)
  pub word_columns : at.word_columns ≡ 1
  pub rows : at.rows ≡ 64

-- a board has a word for each row of each word column
abbrev pub FillsFrame : Frame → List ℕ → Type 0
FillsFrame at words = length words ≡ at.word_columns * at.rows

-- there are at most 256 words per cell and another 271,000 words, which take a little over two megabytes
abbrev pub HasFewWords : Frame → List Cell → Type 0
HasFewWords at cells = at.word_columns * at.rows ≤ 256 * length cells + 271000

-- all cells are on the board
abbrev pub LieOn : Frame → List Cell → Type 0
LieOn at cells = (c : Cell) → has cells c ≡ true → IsWithin (bounds_of at) c
