use Rattle.std.proofs.Common.{◌≡◌, take}
use Rattle.std.specs.List.{flat_map}
use Rattle.plane_core.specs.plane.Generations.{neighbourhood}
use Rattle.plane_core.proofs.plane.list_generation.neighbourhoods.Given as goal

abbrev pub invariant-loop-cell : goal.invariant-loop-cell
invariant-loop-cell l = l.near.items ≡ flat_map neighbourhood (take l.cell-index l.cells)
