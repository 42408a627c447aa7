use Rattle.std.proofs.Common.{◌≡◌, true, map, take}
use Rattle.std.specs.List.{list_all}
use Rattle.plane_core.specs.plane.Cells.{on_plane}
use Rattle.plane_core.specs.plane.Orientations.{landed}
use Rattle.plane_core.proofs.plane.pattern.Pattern.shift.Given as goal

abbrev pub invariant-loop-cell : goal.invariant-loop-cell
invariant-loop-cell l = list_all on_plane (map (landed l.transform) (take l.cell-index l.cells)) ≡ true
