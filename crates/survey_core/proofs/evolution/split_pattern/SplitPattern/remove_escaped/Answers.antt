use Rattle.std.proofs.Common.{◌∙◌, All, List, ap, refl, subst, sym}
use Rattle.plane_core.specs.declared.plane.cell.Cell.{Cell}
use Rattle.plane_core.specs.clusters.Clusters.{IsCluster}
use Rattle.plane_core.specs.plane.Generations.{lies_within}
use Rattle.survey_core.specs.UnderWay.{survey_reach}
use Rattle.survey_core.proofs.lemmas.evolution.SplitPatternLemmas.{candidates_start}
use Rattle.survey_core.proofs.evolution.split_pattern.SplitPattern.remove_escaped.Goals as goal

pub loop-init : goal.loop-init
loop-init c =
    let h = c.args.self.now in
    record {
      is_split = c.requires.is_split;
      whole = refl;
      clusters = candidates_start h.board.cells h.spaceships.items c.as_slice-clusters.result.now
          (subst (λ (clusters : List (List Cell)). All (IsCluster h.board.cells) clusters) (sym c.as_slice-clusters.ensures.value)
          c.in_ok-clusters.ensures);
    }

pub remove_ahead-requires-clause-slow : goal.remove_ahead-requires-clause-slow
remove_ahead-requires-clause-slow c = sym c.is_slow-slow.ensures ∙ c.if-not-slow.false

pub remove_ahead-requires-clause-split : goal.remove_ahead-requires-clause-split
remove_ahead-requires-clause-split c = c.loop.invariant.is_split.1

pub remove_ahead-requires-clause-near : goal.remove_ahead-requires-clause-near
remove_ahead-requires-clause-near c = ap (lies_within survey_reach) c.loop.invariant.whole ∙ c.requires.near

pub remove_ahead-requires-clause-clusters : goal.remove_ahead-requires-clause-clusters
remove_ahead-requires-clause-clusters c = c.loop.invariant.clusters

pub loop-preserved : goal.loop-preserved
loop-preserved c = record {
  is_split = (c.in_ok-remove_ahead.ensures.rule ∙ c.loop.invariant.is_split.0, c.in_ok-remove_ahead.ensures.split);
  whole = c.in_ok-remove_ahead.ensures.whole ∙ c.loop.invariant.whole;
  clusters = c.in_ok-remove_ahead.ensures.clusters;
}

-- the case of an iteration that removed no spaceship, so that the loop ends
pub returns-then-len-count-clause-is_split : goal.returns-then-len-count-clause-is_split
returns-then-len-count-clause-is_split c = (c.in_ok-remove_ahead.ensures.rule ∙ c.loop.invariant.is_split.0, c.in_ok-remove_ahead.ensures.split)

pub returns-then-len-count-clause-cells : goal.returns-then-len-count-clause-cells
returns-then-len-count-clause-cells c = c.in_ok-remove_ahead.ensures.whole ∙ c.loop.invariant.whole

-- the case of a loop that ends after as many iterations as there are clusters
pub returns-clause-is_split : goal.returns-clause-is_split
returns-clause-is_split c = c.loop.invariant.is_split

pub returns-clause-cells : goal.returns-clause-cells
returns-clause-cells c = c.loop.invariant.whole
