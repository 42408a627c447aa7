use Rattle.std.proofs.Common.{take}
use Rattle.std.specs.List.{All}
use Rattle.code_core.specs.Apgcodes.{HasCodeShape}
use Rattle.haul_core.proofs.report.claim.check.have_shape.Given as goal

abbrev pub invariant-loop-object : goal.invariant-loop-object
invariant-loop-object l = All (λ object. HasCodeShape object.0) (take l.object-index l.objects)
