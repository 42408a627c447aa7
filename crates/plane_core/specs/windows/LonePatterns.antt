-- A pattern in a window that contains nothing else. Until a live cell is on the rim, the window's generations are the
-- pattern's.
use Rattle.std.specs.Prelude.{◌≡◌, ◌-◌, ◌*◌, ◌<◌, ◌^◌, ℕ, ℤ, ◌+ℤ◌, ◌≤ℤ◌, ◌<ℤ◌, pos, List, [], length, slice_index, slice_index_or, true}
use Rattle.std.specs.Int.{bit_at}
use Rattle.plane_core.specs.declared.plane.cell.Cell.{Cell}
use Rattle.plane_core.specs.plane.Cells.{InOrder, has}
use Rattle.plane_core.specs.windows.Rows.{ShowsInAllRows}
use Rattle.plane_core.specs.windows.Windows.{IsShownInside, row_at}

-- the cell is in the window that begins at (left, top) and has n vectors: 64 columns and 4 n rows
pub record IsInWindow (n : ℕ) (left top : ℤ) (c : Cell) : Type 0 where
  pub west : left ≤ℤ c.x
  pub north : top ≤ℤ c.y
  pub east : c.x <ℤ (left +ℤ pos 64)
  pub south : c.y <ℤ (top +ℤ pos (4 * n))

-- the pattern is in the window, and the window shows nothing else
pub record Holds (n : ℕ) (left top : ℤ) (x : List (List ℕ)) (cells : List Cell) : Type 0 where
  pub in_order : InOrder cells
  pub inside : (c : Cell) → has cells c ≡ true → IsInWindow n left top c
  pub shown : IsShownInside n left top 0 x cells

-- the pattern is in the 64 rows, and they show nothing else
pub record FillsRows (left top : ℤ) (rows : List ℕ) (cells : List Cell) : Type 0 where
  pub in_order : InOrder cells
  pub inside : (c : Cell) → has cells c ≡ true → IsInWindow 16 left top c
  pub shown : ShowsInAllRows left top rows cells

-- a vector of four words
pub record IsVector (v : List ℕ) : Type 0 where
  pub long : length v ≡ 4
  pub small : (j : ℕ) → slice_index v j < 2 ^ 64

-- each of the n vectors of the window is a vector of four words
abbrev pub AreVectors : ℕ → List (List ℕ) → Type 0
AreVectors n x = (k : ℕ) → k < n → IsVector (slice_index_or x k [])

-- a bit of the word is 1 exactly if its column of the window has a live cell
pub record IsColumns (n : ℕ) (x : List (List ℕ)) (columns : ℕ) : Type 0 where
  pub all : (r i : ℕ) → r < 4 * n → bit_at (row_at n x r) i ≡ 1 → bit_at columns i ≡ 1
  pub alive : (i : ℕ) → bit_at columns i ≡ 1 → (r : ℕ) × (r < 4 * n) × (bit_at (row_at n x r) i ≡ 1)

-- the rim is clear: no live cell is in the first or last row, or in the first or last column
pub record IsRimClear (n : ℕ) (x : List (List ℕ)) : Type 0 where
  pub top : row_at n x 0 ≡ 0
  pub bottom : row_at n x (4 * n - 1) ≡ 0
  pub left : (r : ℕ) → r < 4 * n → bit_at (row_at n x r) 0 ≡ 0
  pub right : (r : ℕ) → r < 4 * n → bit_at (row_at n x r) 63 ≡ 0

-- two windows have the same cells
abbrev pub AreAlike : ℕ → List (List ℕ) → List (List ℕ) → Type 0
AreAlike n x y = (r i : ℕ) → r < 4 * n → bit_at (row_at n x r) i ≡ bit_at (row_at n y r) i

-- the row is the first with a live cell
pub record IsFirstRow (n : ℕ) (x : List (List ℕ)) (row : ℕ) : Type 0 where
  pub low : row < 4 * n
  pub some : 0 < row_at n x row
  pub none : (r : ℕ) → r < row → row_at n x r ≡ 0
