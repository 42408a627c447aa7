use Rattle.std.proofs.Common.{◌≡◌, take}
use Rattle.plane_core.specs.plane.Bounds.{shifted}
use Rattle.plane_core.proofs.plane.pattern.Pattern.shift_to.Given as goal

abbrev pub invariant-loop-i : goal.invariant-loop-i
invariant-loop-i l = shifted l.step.0 l.step.1 (take l.i l.cells) ≡ take l.i l.others
