-- A board that advances by leaps.
use Rattle.std.specs.Prelude.{◌≡◌, ℕ, Bool, true, All, List}
use Rattle.plane_core.specs.declared.plane.bounds.Bounds.{Bounds}
use Rattle.plane_core.specs.declared.plane.cell.Cell.{Cell}
use Rattle.plane_core.specs.declared.engine.frame.Frame.{Frame}
use Rattle.plane_core.specs.declared.engine.row_spans.RowSpan.{RowSpan}
use Rattle.plane_core.specs.engine.ActiveBoxes.{HoldAll, IsQuiet, box_bound}
use Rattle.plane_core.specs.plane.Cells.{plane_bound}
use Rattle.plane_core.specs.engine.Frames.{FillsFrame, IsFrame, bounds_of}
use Rattle.plane_core.specs.plane.Bounds.{AreSidesWithin}
use Rattle.plane_core.specs.engine.OnBoard.{cells_on}
use Rattle.plane_core.specs.plane.Rules.{Numbers}
use Rattle.plane_core.specs.engine.RowSpans.{AreSpans}

-- a pattern under a rule
pub record Running : Type 0 where
  pub rule : Numbers
  pub cells : List Cell

-- The words and the boxes of a board: the words fill the frame, the sides of the boxes are within `box_bound`, and each
-- cell that isn't within 2 of a box is the same two generations later. If `holds_all` is true, the boxes contain all
-- live cells.
pub record IsBoard (at : Frame) (rule : Numbers) (words : List ℕ) (boxes : List Bounds) (holds_all : Bool) : Type 0 where
  pub frame : IsFrame at
  pub long : FillsFrame at words
  pub sides : All (AreSidesWithin box_bound) boxes
  pub quiet : IsQuiet rule (cells_on at words) boxes
  pub all : holds_all ≡ true → HoldAll boxes (cells_on at words)

-- a board on the plane, with a span of rows for each word column; all live cells are in the spans
pub record IsSpannedBoard (at : Frame) (rule : Numbers) (words : List ℕ) (boxes : List Bounds) (holds_all : Bool)
    (spans : List RowSpan) : Type 0 where
  pub board : IsBoard at rule words boxes holds_all
  pub spanned : AreSpans at (cells_on at words) spans
  pub plane : AreSidesWithin plane_bound (bounds_of at)
