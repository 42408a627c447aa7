use Rattle.std.proofs.Common.{arith}
use Rattle.survey_core.proofs.lemmas.rest.ApartLemmas.{all_apart, apart_one_more}
use Rattle.survey_core.proofs.rest.alone.lie_apart.Goals as goal

pub loop-place-init : goal.loop-place-init
loop-place-init c = λ i j d less low. absurd (omega arith)

pub loop-place-preserved : goal.loop-place-preserved
loop-place-preserved c = apart_one_more c.loop-place.place c.args.clusters.now c.loop-place.invariant (c.lies_apart-apart.ensures c.if-not-apart.false)

pub returns : goal.returns
returns c = λ e. all_apart c.loop-place.place c.args.clusters.now c.loop-place-test.false c.loop-place.invariant
