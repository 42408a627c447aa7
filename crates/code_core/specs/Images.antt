-- The box and the cells of a pattern's image in an orientation, with the top left corner of the image at (0, 0).
use Rattle.std.specs.Prelude.{ℤ, pos}
use Rattle.plane_core.specs.declared.plane.bounds.Bounds.{Bounds}
use Rattle.plane_core.specs.declared.plane.cell.Cell.{Cell}
use Rattle.plane_core.specs.declared.plane.orientation.Orientation.{Orientation}
use Rattle.plane_core.specs.declared.plane.orientation.Orientation.TheVariants.{Same, Quarter, Half, ThreeQuarter, Mirror, Flip, Diagonal, AntiDiagonal}
use Rattle.plane_core.specs.plane.Cells.{cell_at, distance}

-- the box from (0, 0) to column `right` and row `bottom`
abbrev pub box_to : ℤ → ℤ → Bounds
box_to right bottom = record { left = pos 0; top = pos 0; right = right; bottom = bottom }

-- the box of the image of a pattern with this box: some orientations exchange columns and rows
abbrev pub image_box : Orientation → Bounds → Bounds
image_box Same b = box_to (pos (distance b.left b.right)) (pos (distance b.top b.bottom))
image_box Quarter b = box_to (pos (distance b.top b.bottom)) (pos (distance b.left b.right))
image_box Half b = box_to (pos (distance b.left b.right)) (pos (distance b.top b.bottom))
image_box ThreeQuarter b = box_to (pos (distance b.top b.bottom)) (pos (distance b.left b.right))
image_box Mirror b = box_to (pos (distance b.left b.right)) (pos (distance b.top b.bottom))
image_box Flip b = box_to (pos (distance b.left b.right)) (pos (distance b.top b.bottom))
image_box Diagonal b = box_to (pos (distance b.top b.bottom)) (pos (distance b.left b.right))
image_box AntiDiagonal b = box_to (pos (distance b.top b.bottom)) (pos (distance b.left b.right))

-- the image of cell c of a pattern with this box: the column and the row of the image are the distances of c from two
-- sides of the box
abbrev pub image_cell : Orientation → Bounds → Cell → Cell
image_cell Same b c = cell_at (pos (distance b.left c.x)) (pos (distance b.top c.y))
image_cell Quarter b c = cell_at (pos (distance c.y b.bottom)) (pos (distance b.left c.x))
image_cell Half b c = cell_at (pos (distance c.x b.right)) (pos (distance c.y b.bottom))
image_cell ThreeQuarter b c = cell_at (pos (distance b.top c.y)) (pos (distance c.x b.right))
image_cell Mirror b c = cell_at (pos (distance c.x b.right)) (pos (distance b.top c.y))
image_cell Flip b c = cell_at (pos (distance b.left c.x)) (pos (distance c.y b.bottom))
image_cell Diagonal b c = cell_at (pos (distance b.top c.y)) (pos (distance b.left c.x))
image_cell AntiDiagonal b c = cell_at (pos (distance c.y b.bottom)) (pos (distance c.x b.right))
