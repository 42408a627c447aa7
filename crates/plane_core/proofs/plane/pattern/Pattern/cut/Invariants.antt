use Rattle.std.specs.Prelude.{IfSome}
use Rattle.plane_core.specs.plane.Parts.{IsCut}
use Rattle.plane_core.proofs.plane.pattern.Pattern.cut.Given as goal

abbrev pub invariant-loop-i : goal.invariant-loop-i
invariant-loop-i l = IfSome l.cut (IsCut l.far l.self)
