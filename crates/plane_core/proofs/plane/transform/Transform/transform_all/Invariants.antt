use Rattle.std.proofs.Common.{◌≡◌, ◌++◌, drop, map, take}
use Rattle.plane_core.specs.plane.Orientations.{landed}
use Rattle.plane_core.proofs.plane.transform.Transform.transform_all.Given as goal

abbrev pub invariant-loop-cell : goal.invariant-loop-cell
invariant-loop-cell l = l.cell-items ≡ map (landed l.self) (take l.cell-index l.cells) ++ drop l.cell-index l.cells
