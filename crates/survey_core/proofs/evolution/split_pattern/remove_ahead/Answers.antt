use Rattle.std.proofs.Common.{◌≡◌, ◌∙◌, List, ap, refl, subst, sym}
use Rattle.plane_core.specs.plane.Generations.{lies_within}
use Rattle.survey_core.specs.declared.evolution.escaped_spaceships.Spaceship.{Spaceship}
use Rattle.survey_core.specs.evolution.SplitPatterns.{HasSmallNumbers, IsNoneOf, whole_at}
use Rattle.survey_core.specs.evolution.EscapedSpaceships.{IsForemost}
use Rattle.survey_core.specs.UnderWay.{survey_reach}
use Rattle.survey_core.proofs.lemmas.rest.RestLemmas.{cluster_some}
use Rattle.survey_core.proofs.lemmas.evolution.SplitPatternLemmas.{board_near, candidate, candidates_more, split_more, part_near}
use Rattle.survey_core.proofs.lemmas.evolution.RemovedLemmas.{same_whole_now}
use Rattle.survey_core.proofs.evolution.split_pattern.remove_ahead.Goals as goal

pub spaceship_of-requires-clause-some : goal.spaceship_of-requires-clause-some
spaceship_of-requires-clause-some c =
    let are = c.loop-cluster.invariant.clusters in
    cluster_some are.before c.cluster-item.result
    (candidate c.loop-cluster.board.cells c.loop-cluster.spaceships.items c.args.clusters.now c.loop-cluster.cluster-index c.cluster-item.result are
    c.loop-cluster-test.true c.cluster-item.is)

pub spaceship_of-requires-clause-part : goal.spaceship_of-requires-clause-part
spaceship_of-requires-clause-part c =
    let are = c.loop-cluster.invariant.clusters in
    are.still c.cluster-item.result
    (candidate c.loop-cluster.board.cells c.loop-cluster.spaceships.items c.args.clusters.now c.loop-cluster.cluster-index c.cluster-item.result are
    c.loop-cluster-test.true c.cluster-item.is)
    (subst (λ (spaceships : List Spaceship). IsNoneOf spaceships c.cluster-item.result) c.as_slice.ensures.value
    (c.has_escaped-has_escaped.ensures c.if-has_escaped.false))

pub spaceship_of-requires-clause-near : goal.spaceship_of-requires-clause-near
spaceship_of-requires-clause-near c =
    part_near survey_reach c.loop-cluster.board.cells c.cluster-item.result
    (board_near survey_reach c.args.rule.now c.args.time c.loop-cluster.board.cells c.loop-cluster.spaceships.items
    (ap (lies_within survey_reach) c.loop-cluster.invariant.whole ∙ c.requires.near)) (spaceship_of-requires-clause-part c)

pub spaceship_of-requires-clause-least : goal.spaceship_of-requires-clause-least
spaceship_of-requires-clause-least c = c.requires.least

pub spaceship_of-requires-clause-most : goal.spaceship_of-requires-clause-most
spaceship_of-requires-clause-most c = c.requires.most

pub loop-cluster-init : goal.loop-cluster-init
loop-cluster-init c = record { rule = refl; split = c.requires.split; whole = refl; clusters = c.requires.clusters }

-- an iteration changes nothing if its cluster has already been removed, or if the cluster stays on the board
pub loop-cluster-preserved-then-has_escaped : goal.loop-cluster-preserved-then-has_escaped
loop-cluster-preserved-then-has_escaped c = c.loop-cluster.invariant

pub loop-cluster-preserved-in_default : goal.loop-cluster-preserved-in_default
loop-cluster-preserved-in_default c = c.loop-cluster.invariant

pub loop-cluster-preserved : goal.loop-cluster-preserved
loop-cluster-preserved c =
    let rule = c.args.rule.now in
    let t = c.args.time in
    let board = c.loop-cluster.board.cells in
    let spaceships = c.loop-cluster.spaceships.items in
    let spaceship = c.in-Some.spaceship in
    let before = c.loop-cluster.invariant in
    let is : IsForemost rule board spaceship.recurrence spaceship.cells = rw c.in-Some.is at c.in_ok-spaceship.ensures.foremost in
    let cells : spaceship.cells ≡ c.cluster-item.result = rw c.in-Some.is at c.in_ok-spaceship.ensures.cells in
    let since : spaceship.since ≡ t = rw c.in-Some.is at c.in_ok-spaceship.ensures.since in
    let small : HasSmallNumbers spaceship = rw c.in-Some.is at c.in_ok-spaceship.ensures.small in
    let left = c.in_ok-take_out.ensures.cells in
    let more = c.in_ok-push.ensures.items in
    record {
      rule = c.in_ok-take_out.ensures.rule ∙ before.rule;
      split = split_more rule t board c.take_out.new.self.cells spaceships c.push.new.self.items spaceship before.split
          c.requires.slow since is small left more;
      whole = (λ i. whole_at rule t (left i) (more i))
          ∙ sym (same_whole_now rule t board spaceships spaceship before.split.off.in_order c.requires.slow since is)
          ∙ before.whole;
      clusters = candidates_more board c.take_out.new.self.cells spaceships c.push.new.self.items c.args.clusters.now spaceship c.loop-cluster.cluster-index
          c.cluster-item.result before.clusters c.loop-cluster-test.true c.cluster-item.is cells left more;
    }

pub returns-clause-split : goal.returns-clause-split
returns-clause-split c = c.loop-cluster.invariant.split

pub returns-clause-clusters : goal.returns-clause-clusters
returns-clause-clusters c = c.loop-cluster.invariant.clusters

pub returns-clause-rule : goal.returns-clause-rule
returns-clause-rule c = c.loop-cluster.invariant.rule

pub returns-clause-whole : goal.returns-clause-whole
returns-clause-whole c = c.loop-cluster.invariant.whole
