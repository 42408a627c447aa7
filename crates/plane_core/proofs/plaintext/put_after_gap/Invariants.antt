use Rattle.std.proofs.Common.{◌-◌, ◌≤◌, Ok, replicate}
use Rattle.plane_core.specs.declared.output.WriteError.{WriteError}
use Rattle.plane_core.specs.Outputs.{Writes}
use Rattle.plane_core.specs.PlaintextPlaces.{dot}
use Rattle.plane_core.proofs.plaintext.put_after_gap.Given as goal

abbrev pub invariant-loop-left : goal.invariant-loop-left
invariant-loop-left g l =
    (l.left ≤ l.gap) × Writes {E = WriteError} g.V.Write.contents l.fn.out l.out (Ok tt) (replicate (l.gap - l.left) dot)

abbrev pub decreases-loop-left : goal.decreases-loop-left
decreases-loop-left g l = l.left
