-- Windows side by side over a rectangle.
use Rattle.std.specs.Prelude.{◌+◌, ◌*◌, ◌≤◌, ℕ, ℤ, pos, ◌+ℤ◌, ◌≤ℤ◌, ◌<ℤ◌}
use Rattle.plane_core.specs.declared.plane.cell.Cell.{Cell}
use Rattle.plane_core.specs.declared.engine.cover.Spans.{Spans}
use Rattle.plane_core.specs.plane.Cells.{distance}

-- Spans of this size, side by side, cover the numbers from `first` to `last`. They begin at most one span before
-- `first`, and their total length is at most one span more than the distance from `first` to `last`.
pub record AreSideBySide (first last : ℤ) (size : ℕ) (spans : Spans) : Type 0 where
  pub start : spans.first ≤ℤ first
  pub near : first ≤ℤ (spans.first +ℤ pos size)
  pub end : last <ℤ (spans.first +ℤ pos (size * spans.count))
  pub small : size * spans.count ≤ distance first last + size

-- The cell is in one of the spans of 56 columns, and in an inner row of windows with `rows` rows, whose first inner row
-- is `row`.
pub record IsInRow (spans : Spans) (row : ℤ) (rows : ℕ) (c : Cell) : Type 0 where
  pub left : spans.first ≤ℤ c.x
  pub right : c.x <ℤ (spans.first +ℤ pos (56 * spans.count))
  pub top : row ≤ℤ c.y
  pub bottom : (c.y +ℤ pos 8) <ℤ (row +ℤ pos rows)
