use Rattle.std.proofs.Common.{◌≡◌, take}
use Rattle.plane_core.specs.plane.Bounds.{box_of}
use Rattle.plane_core.proofs.plane.pattern.Pattern.bounds.Given as goal

abbrev pub invariant-loop-cell : goal.invariant-loop-cell
invariant-loop-cell l = l.bounds ≡ box_of (take l.cell-index l.cell-items)
