-- The rows of a window as a list of words, each of which shows 64 cells of the plane.
use Rattle.std.specs.Prelude.{◌≡◌, ◌==◌, ◌+◌, ◌<◌, ◌≤◌, ℕ, ℤ, ◌+ℤ◌, pos, List, slice_index}
use Rattle.std.specs.Int.{bit_at}
use Rattle.plane_core.specs.declared.plane.cell.Cell.{Cell}
use Rattle.plane_core.specs.plane.Cells.{cell_at, has}

-- bit i of row r
abbrev pub bit_in : List ℕ → ℕ → ℕ → ℕ
bit_in rows r i = bit_at (slice_index rows r) i

-- the rows of the window that begins at (left, top) show the pattern
abbrev pub ShowsInAllRows : ℤ → ℤ → List ℕ → List Cell → Type 0
ShowsInAllRows left top rows cells = (r i : ℕ) → r < 64 → i < 64 → has cells (cell_at (left +ℤ pos i) (top +ℤ pos r)) ≡ (bit_in rows r i == 1)

-- the rows show the pattern, except in the two outermost columns and rows on each side
abbrev pub ShowsInRows : ℤ → ℤ → List ℕ → List Cell → Type 0
ShowsInRows left top rows cells = (r i : ℕ) → 2 ≤ r → r < 62 → 2 ≤ i → i < 62
    → has cells (cell_at (left +ℤ pos i) (top +ℤ pos r)) ≡ (bit_in rows r i == 1)

-- the rows show the pattern in all cells that are at least `depth` inside the window
abbrev pub ShowsInside : ℤ → ℤ → ℕ → List ℕ → List Cell → Type 0
ShowsInside left top depth rows cells = (r i : ℕ) → depth ≤ r → r + depth < 64 → depth ≤ i → i + depth < 64
    → has cells (cell_at (left +ℤ pos i) (top +ℤ pos r)) ≡ (bit_in rows r i == 1)
