use Rattle.std.proofs.Common.{◌≡◌, subst, sym, true}
use Rattle.plane_core.specs.plane.Generations.{lies_within, next}
use Rattle.survey_core.specs.declared.rest.alone.Alone.{Alone}
use Rattle.survey_core.proofs.lemmas.rest.RunLemmas.{all_stepped, as_it_was, step_more}
use Rattle.survey_core.proofs.rest.alone.step_each.Goals as goal

pub next-requires-clause-first : goal.next-requires-clause-first
next-requires-clause-first c =
    subst (λ (alone : Alone). alone.first ≡ next c.args.rule.now alone.cluster)
    (sym (as_it_was c.args.rule.now c.args.clusters.now c.loop-cluster.clusters c.loop-cluster.cluster-index c.cluster-item.result
    c.loop-cluster-test.true c.loop-cluster.invariant))
    (c.requires.first c.loop-cluster.cluster-index c.cluster-item.result c.loop-cluster-test.true)

pub next-requires-clause-near : goal.next-requires-clause-near
next-requires-clause-near c =
    subst (λ (alone : Alone). lies_within 999999 alone.latest ≡ true)
    (sym (as_it_was c.args.rule.now c.args.clusters.now c.loop-cluster.clusters c.loop-cluster.cluster-index c.cluster-item.result
    c.loop-cluster-test.true c.loop-cluster.invariant))
    (c.requires.near c.loop-cluster.cluster-index c.cluster-item.result c.loop-cluster-test.true)

pub loop-cluster-preserved : goal.loop-cluster-preserved
loop-cluster-preserved c =
    step_more c.args.rule.now c.args.clusters.now c.loop-cluster.clusters c.loop-cluster.cluster-index c.cluster-item.result c.in_ok-cluster.field-0
    c.loop-cluster-test.true c.loop-cluster.invariant c.in_ok-cluster.ensures

pub returns : goal.returns
returns c = all_stepped c.args.rule.now c.args.clusters.now c.loop-cluster.clusters c.loop-cluster.cluster-index c.loop-cluster-test.false c.loop-cluster.invariant
