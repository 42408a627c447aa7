-- A pattern without some of its cells.
use Rattle.std.specs.Prelude.{not, List, filter}
use Rattle.plane_core.specs.declared.plane.cell.Cell.{Cell}
use Rattle.plane_core.specs.plane.Cells.{has}

-- the cells that aren't among the others
abbrev pub without : List Cell → List Cell → List Cell
without cells others = filter (λ c. not (has others c)) cells
