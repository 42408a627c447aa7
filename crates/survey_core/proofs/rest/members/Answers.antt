use Rattle.std.proofs.Common.{◌≡◌, ◌∙◌, ap, arith, get_or, map, subst, sym, true, List, []}
use Rattle.plane_core.specs.declared.plane.cell.Cell.{Cell}
use Rattle.plane_core.specs.plane.Generations.{lies_within}
use Rattle.plane_core.proofs.lemmas.plane.GenerationLemmas.{after-none}
use Rattle.survey_core.specs.rest.Alone.{alone_at}
use Rattle.survey_core.specs.UnderWay.{survey_reach}
use Rattle.survey_core.proofs.lemmas.rest.GroupLemmas.{members-none, members_other}
use Rattle.survey_core.proofs.lemmas.PlaneLemmas.{within_more}
use Rattle.survey_core.proofs.lemmas.rest.RunLemmas.{start_more}
use Rattle.survey_core.proofs.rest.members.Goals as goal

pub loop-place-init : goal.loop-place-init
loop-place-init c = c.new-members.ensures.items ∙ ap (map (alone_at c.args.rule.now 0)) (sym (members-none c.args.number []))

pub next-requires : goal.next-requires
next-requires c =
    subst (λ (cluster : List Cell). lies_within 999999 cluster ≡ true) (sym c.index-clusters-place.is)
    (within_more survey_reach 999999 (get_or c.args.clusters.now c.loop-place.place c.index-clusters-place.result) (omega arith)
    (c.requires.near c.loop-place.place c.index-clusters-place.result c.loop-place-test.true))

-- the case of a cluster in another group
pub loop-place-preserved-then-groups-place : goal.loop-place-preserved-then-groups-place
loop-place-preserved-then-groups-place c =
    c.loop-place.invariant
    ∙ ap (map (alone_at c.args.rule.now 0))
    (sym (members_other c.args.number c.args.groups.now c.args.clusters.now c.loop-place.place c.loop-place-test.true c.requires.count c.if-groups-place.true))

-- the case of a cluster in the group
pub loop-place-preserved : goal.loop-place-preserved
loop-place-preserved c =
    let rule = c.args.rule.now in
    let cluster = c.index-clusters-place.result in
    c.in_ok-push.ensures.items
    ∙ start_more rule c.args.number c.args.groups.now c.args.clusters.now c.loop-place.place cluster
    c.loop-place.members.items _ c.loop-place-test.true c.requires.count c.if-groups-place.false c.loop-place.invariant
    ((λ i. record {
      cluster = c.in_ok-copy.ensures i;
      first = c.in_ok-next.ensures i;
      latest = (c.in_ok-copy-2.ensures ∙ sym (after-none rule cluster)) i;
    }) ∙ ap (alone_at rule 0) c.index-clusters-place.is)
