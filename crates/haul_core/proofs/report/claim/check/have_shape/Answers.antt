use Rattle.std.proofs.Common.{subst}
use Rattle.std.proofs.lemmas.List.{take_all}
use Rattle.std.proofs.lemmas.List.Elements.{All-more}
use Rattle.std.specs.List.{All}
use Rattle.code_core.specs.Apgcodes.{HasCodeShape}
use Rattle.haul_core.proofs.report.claim.check.have_shape.Goals as goal

pub loop-object-preserved : goal.loop-object-preserved
loop-object-preserved c =
    All-more (λ object. HasCodeShape object.0) c.args.objects.now c.loop-object.object-index c.object-item.result
    c.loop-object-test.true c.loop-object.invariant
    (subst (λ object. HasCodeShape object.0) c.object-item.is c.text.ensures.shape)

pub returns : goal.returns
returns c =
    subst (All (λ object. HasCodeShape object.0)) (take_all c.loop-object.object-index c.args.objects.now c.loop-object-test.false) c.loop-object.invariant
