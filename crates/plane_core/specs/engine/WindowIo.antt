-- Windows that are read from a board and put back. Column u and row v of a board count from its first column and row.
use Rattle.std.specs.Prelude.{◌≡◌, ◌≢◌, ◌+◌, ◌*◌, ◌/◌, ◌%◌, ◌<◌, ◌≤◌, ℕ, List, slice_index, ◌⊎◌, ◌+ℤ◌, pos}
use Rattle.std.specs.Int.{bit_at}
use Rattle.plane_core.specs.declared.plane.cell.Cell.{Cell}
use Rattle.plane_core.specs.declared.engine.frame.Frame.{Frame}
use Rattle.plane_core.specs.plane.Cells.{cell_at}
use Rattle.plane_core.specs.engine.Frames.{word_of}

-- the cell in column u and row v of the board
abbrev pub cell_on : Frame → ℕ → ℕ → Cell
cell_on at u v = cell_at (at.left +ℤ pos u) (at.top +ℤ pos v)

-- the bit in column u and row v of the board
abbrev pub bit_on : Frame → List ℕ → ℕ → ℕ → ℕ
bit_on at words u v = bit_at (slice_index words (word_of at (u / 64) v)) (u % 64)

-- the first n rows of a window that begins in column x and row y have the bits of the board
abbrev pub AreRowsRead : Frame → List ℕ → ℕ → ℕ → ℕ → List ℕ → Type 0
AreRowsRead at words x y n rows = (r i : ℕ) → r < n → i < 64 → bit_at (slice_index rows r) i ≡ bit_on at words (x + i) (y + r)

-- the mask of a window's inner columns, 4 to 59
abbrev pub inner_mask : ℕ
inner_mask = 0x0fff_ffff_ffff_fff0

-- column u of the board is inner column i, 4 to 59, of a window that begins in column x
pub record IsInnerColumn (x u : ℕ) : Type 0 where
  pub i : ℕ
  pub low : 4 ≤ i
  pub high : i < 60
  pub is : u ≡ x + i

-- row v of the board is row r, from 4 to before `end`, of a window that begins in row y
pub record IsInnerRow (y end v : ℕ) : Type 0 where
  pub r : ℕ
  pub low : 4 ≤ r
  pub high : r < end
  pub is : v ≡ y + r

-- column u and row v of the board are an inner column and an inner row of the window
pub record IsInner (x y end u v : ℕ) : Type 0 where
  pub column : IsInnerColumn x u
  pub row : IsInnerRow y end v

-- in row y of the board, the inner columns of a window now have the bits of the word, and all other bits are unchanged
abbrev pub IsRowPut : Frame → ℕ → ℕ → ℕ → List ℕ → List ℕ → Type 0
IsRowPut at x y word old new = (u v : ℕ) → u < 64 * at.word_columns → v < at.rows
    → ((c : IsInnerColumn x u) × (v ≡ y) × (bit_on at new u v ≡ bit_at word c.i))
    ⊎ ((IsInnerColumn x u → v ≢ y) × (bit_on at new u v ≡ bit_on at old u v))

-- row v of the board is one of the four rows from row y on
pub record IsOneOfFour (y v : ℕ) : Type 0 where
  pub j : ℕ
  pub low : j < 4
  pub is : v ≡ y + j

-- in the four rows of the board from row y on, the inner columns now have the bits of the window's rows from row r on,
-- and all other bits are unchanged
abbrev pub AreRowsPut : Frame → ℕ → ℕ → ℕ → List ℕ → List ℕ → List ℕ → Type 0
AreRowsPut at x y r rows old new = (u v : ℕ) → u < 64 * at.word_columns → v < at.rows
    → ((c : IsInnerColumn x u) × (k : IsOneOfFour y v) × (bit_on at new u v ≡ bit_at (slice_index rows (r + k.j)) c.i))
    ⊎ ((IsInnerColumn x u → ¬ IsOneOfFour y v) × (bit_on at new u v ≡ bit_on at old u v))

-- on the board, the inner part of a window, from row 4 to before row `end`, now has the bits of these rows, and all
-- other bits are unchanged
abbrev pub IsPutBack : Frame → ℕ → ℕ → ℕ → List ℕ → List ℕ → List ℕ → Type 0
IsPutBack at x y end rows old new = (u v : ℕ) → u < 64 * at.word_columns → v < at.rows
    → ((c : IsInner x y end u v) × (bit_on at new u v ≡ bit_at (slice_index rows c.row.r) c.column.i))
    ⊎ ((¬ IsInner x y end u v) × (bit_on at new u v ≡ bit_on at old u v))
