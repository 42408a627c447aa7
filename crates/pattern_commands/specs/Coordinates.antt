-- Coordinates: a line `X Y` for each live cell, row by row.
use Rattle.std.specs.Prelude.{◌++◌, ℕ, List, codes, flat_map}
use Rattle.std.specs.Fmt.{signed_decimal}
use Rattle.plane_core.specs.declared.plane.cell.Cell.{Cell}

-- the line of a cell: its column and its row, in decimal
abbrev pub coordinate_line : Cell → List ℕ
coordinate_line c = signed_decimal c.x ++ ((codes " " ++ signed_decimal c.y) ++ codes "\n")

-- the lines of all cells, in the order of the pattern: row by row, and in each row from left to right
abbrev pub coordinates_text : List Cell → List ℕ
coordinates_text cells = flat_map coordinate_line cells
