use Rattle.std.proofs.Common.{◌≡◌, false, take}
use Rattle.plane_core.specs.plane.Generations.{touches_edge}
use Rattle.plane_core.proofs.plane.pattern.Pattern.touches_edge.Given as goal

abbrev pub invariant-loop-cell : goal.invariant-loop-cell
invariant-loop-cell l = touches_edge (take l.cell-index l.cell-items) ≡ false
