-- The eight orientations of a pattern: the symmetries of the square.
use Rattle.std.specs.Prelude.{List, [], ◌∷◌, map, neg_ℤ, pos, Option, None, Some}
use Rattle.plane_core.specs.declared.plane.cell.Cell.{Cell}
use Rattle.plane_core.specs.declared.plane.orientation.Orientation.{Orientation}
use Rattle.plane_core.specs.declared.plane.orientation.Orientation.TheVariants.{Same, Quarter, Half, ThreeQuarter, Mirror, Flip, Diagonal, AntiDiagonal}
use Rattle.plane_core.specs.declared.plane.transform.Transform.{Transform}
use Rattle.plane_core.specs.declared.plane.bounds.Bounds.{Bounds}
use Rattle.plane_core.specs.plane.Bounds.{at_corner}
use Rattle.plane_core.specs.plane.Cells.{cell_at, moved_by, set_of}

-- all orientations, each once
abbrev pub orientations : List Orientation
orientations = Same ∷ Quarter ∷ Half ∷ ThreeQuarter ∷ Mirror ∷ Flip ∷ Diagonal ∷ AntiDiagonal ∷ []

-- the cell to which an orientation maps a cell
abbrev pub turned_cell : Orientation → Cell → Cell
turned_cell Same c = c
turned_cell Quarter c = cell_at (neg_ℤ c.y) c.x
turned_cell Half c = cell_at (neg_ℤ c.x) (neg_ℤ c.y)
turned_cell ThreeQuarter c = cell_at c.y (neg_ℤ c.x)
turned_cell Mirror c = cell_at (neg_ℤ c.x) c.y
turned_cell Flip c = cell_at c.x (neg_ℤ c.y)
turned_cell Diagonal c = cell_at c.y c.x
turned_cell AntiDiagonal c = cell_at (neg_ℤ c.y) (neg_ℤ c.x)

-- the image of a cell under a transform: the cell is turned, then moved
abbrev pub landed : Transform → Cell → Cell
landed p c = moved_by p.dx p.dy (turned_cell p.orientation c)

-- the transform that turns a pattern and moves its image, whose box is given, to the corner; an empty image isn't moved
abbrev pub corner_transform : Orientation → Option Bounds → Transform
corner_transform o None = record { orientation = o; dx = pos 0; dy = pos 0 }
corner_transform o (Some b) = record { orientation = o; dx = neg_ℤ b.left; dy = neg_ℤ b.top }

-- the image of a pattern: its cells, turned around the origin or mirrored
unfoldable pub image : Orientation → List Cell → List Cell
image o cells = set_of (map (turned_cell o) cells)

-- the image of a pattern, moved to the corner
unfoldable pub turned : Orientation → List Cell → List Cell
turned o cells = at_corner (image o cells)
