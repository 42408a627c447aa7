-- Which error a call of this crate returns, and when.
use Rattle.std.specs.Prelude.{◌≡◌, true, false, List, position, Some, None}
use Rattle.plane_core.specs.declared.plane.cell.Cell.{Cell}
use Rattle.plane_core.specs.declared.plane.pattern.FromCellsError.{FromCellsError}
use Rattle.plane_core.specs.declared.plane.pattern.FromCellsError.TheVariants.{OutOfPlane, Memory}
use Rattle.std.specs.List.{list_all}
use Rattle.plane_core.specs.declared.plane.transform.PlaceError.{PlaceError}
use Rattle.plane_core.specs.declared.plane.transform.PlaceError.TheVariants as place
use Rattle.plane_core.specs.declared.generation.StepError.{StepError}
use Rattle.plane_core.specs.declared.generation.StepError.TheVariants as step
use Rattle.plane_core.specs.plane.Cells.{off_plane, on_plane}
use Rattle.plane_core.specs.plane.Generations.{touches_edge}

-- `OutOfPlane` has the index of the first cell off the plane; `Memory` is returned only if there is no such cell
abbrev pub RefusesCells : List Cell → FromCellsError → Type 0
RefusesCells cells (OutOfPlane index) = position off_plane cells ≡ Some index
RefusesCells cells (Memory error) = position off_plane cells ≡ None

-- `Edge` is returned only if a cell is on the edge, and `Memory` only if none is
abbrev pub RefusesStep : List Cell → StepError → Type 0
RefusesStep cells step.Edge = touches_edge cells ≡ true
RefusesStep cells (step.Memory error) = touches_edge cells ≡ false

-- `OutOfPlane` is returned only if a cell of the moved or turned pattern is off the plane, and `Memory` only if none is
abbrev pub RefusesPlace : List Cell → PlaceError → Type 0
RefusesPlace cells place.OutOfPlane = list_all on_plane cells ≡ false
RefusesPlace cells (place.Memory error) = list_all on_plane cells ≡ true
