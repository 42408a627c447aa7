use Rattle.std.proofs.Common.{◌≡◌, map, take}
use Rattle.plane_core.specs.plane.Bounds.{box_of}
use Rattle.plane_core.specs.plane.Orientations.{turned_cell}
use Rattle.plane_core.proofs.plane.transform.to_corner.Given as goal

abbrev pub invariant-loop-cell : goal.invariant-loop-cell
invariant-loop-cell l = l.bounds ≡ box_of (map (turned_cell l.orientation) (take l.cell-index l.cells))
