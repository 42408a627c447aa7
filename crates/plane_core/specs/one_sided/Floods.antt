-- A flood: a cluster in a window of 64 rows, grown from one of the cluster's cells. Each row of the window is a word,
-- and so is each row of the flood.
use Rattle.std.specs.Prelude.{◌≡◌, ◌+◌, ◌<◌, ◌≤◌, ℕ, ℤ, ◌+ℤ◌, pos, List}
use Rattle.plane_core.specs.declared.plane.cell.Cell.{Cell}
use Rattle.plane_core.specs.plane.Cells.{cell_at}
use Rattle.plane_core.specs.clusters.Clusters.{Linked}
use Rattle.plane_core.specs.windows.Rows.{ShowsInRows, bit_in}

-- two columns or rows are at most `reach` apart
pub record AreNear (reach a b : ℕ) : Type 0 where
  pub low : a ≤ b + reach
  pub high : b ≤ a + reach

-- each cell of the flood is linked to the start
abbrev pub AreLinked : ℤ → ℤ → Cell → List Cell → List ℕ → Type 0
AreLinked left top start cells flood = (r i : ℕ) → bit_in flood r i ≡ 1 → Linked cells start (cell_at (left +ℤ pos i) (top +ℤ pos r))

-- the flood has grown: it keeps its bits, and if all old bits are linked to a start cell, all new bits are linked to it
pub record HasGrown (rows old new : List ℕ) : Type 0 where
  pub kept : (r i : ℕ) → bit_in old r i ≡ 1 → bit_in new r i ≡ 1
  pub linked : (cells : List Cell) (start : Cell) (left top : ℤ) → ShowsInRows left top rows cells → AreLinked left top start cells old
      → AreLinked left top start cells new

-- the bit is at least four columns and rows inside the window
pub record IsWellInside (r i : ℕ) : Type 0 where
  pub above : 4 ≤ r
  pub below : r < 60
  pub west : 4 ≤ i
  pub east : i < 60

-- each bit of the flood is well inside the window
abbrev pub LiesInside : List ℕ → Type 0
LiesInside flood = (r i : ℕ) → bit_in flood r i ≡ 1 → IsWellInside r i

-- if bit j of row q is alive and within 2 of a bit of the flood, it is in the flood
abbrev pub IsClosedAt : List ℕ → List ℕ → ℕ → ℕ → Type 0
IsClosedAt rows flood q j = (r i : ℕ) → bit_in flood r i ≡ 1 → AreNear 2 q r → AreNear 2 j i → bit_in rows q j ≡ 1 → bit_in flood q j ≡ 1

-- each live bit within 2 of the flood is in the flood, except in the two top rows and the two bottom rows
abbrev pub IsClosed : List ℕ → List ℕ → Type 0
IsClosed rows flood = (q j : ℕ) → 2 ≤ q → q < 62 → j < 64 → IsClosedAt rows flood q j

-- the flood is the cluster of bit i of row r: it is well inside the window, and has exactly the cells linked to the bit
pub record IsFlooded (rows flood : List ℕ) (r i : ℕ) : Type 0 where
  pub start : bit_in flood r i ≡ 1
  pub inside : LiesInside flood
  pub closed : IsClosed rows flood
  pub linked : (cells : List Cell) (left top : ℤ) → ShowsInRows left top rows cells
      → AreLinked left top (cell_at (left +ℤ pos i) (top +ℤ pos r)) cells flood
