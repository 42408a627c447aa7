use Rattle.std.proofs.Common.{◌<◌, arith, get_or, length}
use Rattle.std.proofs.lemmas.List.{get_or_default}
use Rattle.survey_core.proofs.lemmas.rest.ApartLemmas.{apart_from_more}
use Rattle.survey_core.proofs.rest.alone.lies_apart.Goals as goal

pub loop-other-init : goal.loop-other-init
loop-other-init c = λ i d low. absurd (omega arith)

pub loop-other-preserved : goal.loop-other-preserved
loop-other-preserved c =
    let list = c.args.clusters.now in
    let place = c.args.place in
    let other = c.loop-other.other in
    let here = get_or list place c.index-clusters-place.result in
    let there = get_or list other c.index-clusters-other.result in
    let also : other < length list = omega (arith, c.requires, c.loop-other-test.true) in
    apart_from_more place other list here there c.requires also (get_or_default list place c.index-clusters-place.result here c.requires)
    (get_or_default list other c.index-clusters-other.result there also)
    (c.are_apart-apart.ensures c.if-not-apart.false)
    c.loop-other.invariant

pub returns : goal.returns
returns c = λ e i d low. c.loop-other.invariant i d (omega (arith, low, c.loop-other-test.false))
