use Rattle.std.proofs.Common.{◌≡◌, ◌∙◌, ◌+◌, ◌<◌, ◌≤◌, sym, refl, subst, ℕ, All, true, arith, flat_map, map, List}
use Rattle.std.proofs.lemmas.Bool.{false≢true}
use Rattle.plane_core.specs.declared.plane.cell.Cell.{Cell}
use Rattle.plane_core.specs.plane.Cells.{InOrder}
use Rattle.plane_core.specs.plane.Generations.{after, lies_within}
use Rattle.plane_core.proofs.lemmas.plane.SetLemmas.{in_order-set_of}
use Rattle.survey_core.specs.rest.Alone.{clusters_of, latest_of}
use Rattle.survey_core.specs.rest.Groups.{ShareNoCell, union_of}
use Rattle.survey_core.specs.rest.Rest.{KeepApart}
use Rattle.survey_core.proofs.lemmas.rest.ApartLemmas.{AreOneLater, later_parts, one_later}
use Rattle.survey_core.proofs.lemmas.rest.ForGoodLemmas.{apart_once_back}
use Rattle.survey_core.proofs.lemmas.rest.GroupLemmas.{union_partition}
use Rattle.survey_core.proofs.lemmas.rest.RestLemmas.{alone_in_order, alone_near, apart_at_once, apart_more}
use Rattle.survey_core.proofs.lemmas.rest.RunLemmas.{clusters_are, first_known, later_is, latest_is, latest_near}
use Rattle.survey_core.proofs.rest.keep_apart.Goals.{After-loop, After-step_apart}
use Rattle.survey_core.proofs.rest.keep_apart.Goals as goal

pub loop-init : goal.loop-init
loop-init c =
    let clusters = clusters_of c.args.clusters.now in
    record {
      alone = c.requires.start;
      apart = λ k low. subst (λ (h : ℕ). KeepApart c.args.rule.now (union_of clusters) clusters h) (omega arith)
          (apart_at_once c.args.rule.now (union_of clusters) clusters (union_partition clusters c.requires.off));
    }

pub step_apart-requires-clause-first : goal.step_apart-requires-clause-first
step_apart-requires-clause-first c =
    first_known c.args.rule.now c.loop.counter (clusters_of c.args.clusters.now) c.loop.clusters c.loop.invariant.alone

pub step_apart-requires-clause-near : goal.step_apart-requires-clause-near
step_apart-requires-clause-near c =
    let low : c.loop.counter < c.args.horizon = c.loop-test.true in
    let most : c.args.horizon ≤ 4096 = c.requires.horizon in
    latest_near c.args.rule.now c.loop.counter (clusters_of c.args.clusters.now) c.loop.clusters c.loop.invariant.alone (omega arith) c.requires.near

pub step_apart-requires-clause-later : goal.step_apart-requires-clause-later
step_apart-requires-clause-later c =
    let low : c.loop.counter < c.args.horizon = c.loop-test.true in
    let most : c.args.horizon ≤ 4096 = c.requires.horizon in
    let clusters = clusters_of c.args.clusters.now in
    subst (All (λ part. lies_within 999999 part ≡ true))
    (sym (later_parts c.args.rule.now c.loop.counter clusters (latest_of c.loop.clusters)
    (latest_is c.args.rule.now c.loop.counter clusters c.loop.clusters c.loop.invariant.alone)))
    (alone_near c.args.rule.now clusters (c.loop.counter + 1) c.requires.near (omega arith))

pub step_apart-requires-clause-order : goal.step_apart-requires-clause-order
step_apart-requires-clause-order c =
    let clusters = clusters_of c.args.clusters.now in
    subst (All InOrder) (sym (latest_is c.args.rule.now c.loop.counter clusters c.loop.clusters c.loop.invariant.alone))
    (alone_in_order c.args.rule.now clusters c.loop.counter c.requires.order)

pub step_apart-requires-clause-off : goal.step_apart-requires-clause-off
step_apart-requires-clause-off c =
    let clusters = clusters_of c.args.clusters.now in
    subst ShareNoCell (sym (latest_is c.args.rule.now c.loop.counter clusters c.loop.clusters c.loop.invariant.alone))
    (c.loop.invariant.apart c.loop.counter (omega arith)).disjoint

-- the clusters, run from the start, keep apart in the next generation if and only if their latest generations keep
-- apart one generation later
later : (c : After-step_apart) → AreOneLater c.args.rule.now (union_of (clusters_of c.args.clusters.now)) (clusters_of c.args.clusters.now)
    (latest_of c.loop.clusters) c.loop.counter
later c =
    let clusters = clusters_of c.args.clusters.now in
    one_later c.args.rule.now (union_of clusters) clusters (latest_of c.loop.clusters) c.loop.counter
    (in_order-set_of (flat_map (λ (part : List Cell). part) clusters))
    (latest_is c.args.rule.now c.loop.counter clusters c.loop.clusters c.loop.invariant.alone) (c.loop.invariant.apart c.loop.counter (omega arith))

-- the case of a generation in which the clusters don't keep apart
pub returns-then-not-keeps : goal.returns-then-not-keeps
returns-then-not-keeps c =
    let low : c.loop.counter + 1 ≤ c.args.horizon = omega (arith, c.loop-test.true) in (
      λ e. absurd (false≢true e),
      λ apart. absurd (false≢true (sym c.if-not-keeps.true
          ∙ c.in_ok-keeps.ensures.apart.1 ((later (goal.at.returns-then-not-keeps c).After-step_apart).back (apart (c.loop.counter + 1) low)))),
    )

-- the case in which each cluster is the same as at the start, so that later generations needn't be tested
pub returns-then-have_recurred : goal.returns-then-have_recurred
returns-then-have_recurred c =
    let rule = c.args.rule.now in
    let clusters = clusters_of c.args.clusters.now in
    let alone = later_is rule c.loop.counter clusters c.loop.clusters c.step_apart.new.clusters c.loop.invariant.alone c.in_ok-keeps.ensures.stepped in
    let run = latest_is rule (c.loop.counter + 1) clusters c.step_apart.new.clusters alone in
    let back : latest_of c.step_apart.new.clusters ≡ clusters =
    c.if-have_recurred.ensures.0 refl ∙ clusters_are rule (c.loop.counter + 1) clusters c.step_apart.new.clusters alone in (
      λ e g low. apart_once_back rule (union_of clusters) clusters (latest_of c.step_apart.new.clusters) (c.loop.counter + 1) (omega arith)
          (in_order-set_of (flat_map (λ (part : List Cell). part) clusters)) (union_partition clusters c.requires.off) run back
          (apart_more rule (union_of clusters) clusters c.loop.counter (after rule (union_of clusters) (c.loop.counter + 1))
          (map (λ part. after rule part (c.loop.counter + 1)) clusters) refl refl c.loop.invariant.apart
          ((later (goal.at.returns-then-have_recurred c).After-step_apart).there (c.in_ok-keeps.ensures.apart.0 c.if-not-keeps.false))) g,
      λ apart. refl,
    )

pub loop-preserved : goal.loop-preserved
loop-preserved c =
    let rule = c.args.rule.now in
    let clusters = clusters_of c.args.clusters.now in
    record {
      alone = later_is rule c.loop.counter clusters c.loop.clusters c.step_apart.new.clusters c.loop.invariant.alone c.in_ok-keeps.ensures.stepped;
      apart = apart_more rule (union_of clusters) clusters c.loop.counter (after rule (union_of clusters) (c.loop.counter + 1))
          (map (λ part. after rule part (c.loop.counter + 1)) clusters) refl refl c.loop.invariant.apart
          ((later (goal.at.loop-preserved c).After-step_apart).there (c.in_ok-keeps.ensures.apart.0 c.if-not-keeps.false));
    }

-- the case in which all generations up to the horizon have been tested
pub returns : goal.returns
returns c = (λ e g low. c.loop.invariant.apart g (omega arith), λ apart. refl)
