-- Diagonal directions, and the depth of cells in each: how far a cell lies in the direction, in columns plus rows.
use Rattle.std.specs.Prelude.{◌≡◌, ◌+◌, ◌-◌, ◌<◌, ◌≤◌, ℕ, ℤ, ◌+ℤ◌, ◌≤ℤ◌, neg_ℤ, Bool, true, false, List, Option, IfSome, IsSomeAnd}
use Rattle.plane_core.specs.declared.plane.cell.Cell.{Cell}
use Rattle.plane_core.specs.declared.engine.direction.Direction.{Direction}
use Rattle.plane_core.specs.declared.engine.frame.Frame.{Frame}
use Rattle.plane_core.specs.declared.engine.row_spans.RowSpan.{RowSpan}
use Rattle.plane_core.specs.plane.Cells.{has}
use Rattle.plane_core.specs.engine.Frames.{board_cell}

-- a coordinate, or its negative if it is counted backwards
abbrev pub counted : Bool → ℤ → ℤ
counted true at = at
counted false at = neg_ℤ at

-- the depth of a cell in a direction: its column plus its row, each counted in the direction
abbrev pub depth_in : Direction → Cell → ℤ
depth_in way c = counted way.right c.x +ℤ counted way.down c.y

-- a depth was found, and it is at least z
abbrev pub IsReached : Option ℤ → ℤ → Type 0
IsReached found z = IsSomeAnd found (λ m. z ≤ℤ m)

-- a live cell of the pattern has this depth
pub record HasDepth (way : Direction) (cells : List Cell) (z : ℤ) : Type 0 where
  pub cell : Cell
  pub alive : has cells cell ≡ true
  pub depth : depth_in way cell ≡ z

-- `later` is at least as deep as `found`, and is still the depth of a live cell if `found` was
pub record GoesDeeper (way : Direction) (cells : List Cell) (found later : Option ℤ) : Type 0 where
  pub kept : (z : ℤ) → IsReached found z → IsReached later z
  pub some : IfSome found (HasDepth way cells) → IfSome later (HasDepth way cells)

-- the outermost column in a word column: the last if columns count to the right, otherwise the first
abbrev pub outer_column : Bool → ℕ
outer_column true = 63
outer_column false = 0

-- the row that is `step` rows inwards from the outermost row of the span; the outermost row is the last row if rows
-- count downwards, otherwise the first
abbrev pub inner_row : Bool → RowSpan → ℕ → ℕ
inner_row true rows step = rows.end - (step + 1)
inner_row false rows step = rows.from + step

-- no cell in this row of a word column, alive or dead, is deeper than what was found
abbrev pub NoDeeperRow : Frame → Direction → ℕ → ℕ → Option ℤ → Type 0
NoDeeperRow at way word_column row found = (i : ℕ) → i < 64 → IsReached found (depth_in way (board_cell at word_column row i))

-- If a row is in the span and is `first` or more rows inwards from the outermost row, no cell in this row of the word
-- column, alive or dead, is deeper than what was found.
abbrev pub NoDeeper : Frame → Direction → ℕ → RowSpan → ℕ → Option ℤ → Type 0
NoDeeper at way word_column rows first found =
    (step : ℕ) → first ≤ step → step < rows.end - rows.from → NoDeeperRow at way word_column (inner_row way.down rows step) found

-- the row of a word column has been read: no live cell in it is deeper than what was found
abbrev pub IsSeen : Frame → Direction → List Cell → ℕ → ℕ → Option ℤ → Type 0
IsSeen at way cells word_column row found =
    (i : ℕ) → i < 64 → has cells (board_cell at word_column row i) ≡ true → IsReached found (depth_in way (board_cell at word_column row i))
