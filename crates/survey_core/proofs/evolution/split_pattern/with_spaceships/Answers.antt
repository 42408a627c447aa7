use Rattle.std.proofs.Common.{◌∙◌, ap, subst, sym}
use Rattle.std.proofs.lemmas.List.{take_all}
use Rattle.survey_core.specs.declared.evolution.escaped_spaceships.Spaceship.{Spaceship}
use Rattle.survey_core.specs.evolution.SplitPatterns.{IsTraced, whole_at}
use Rattle.survey_core.proofs.lemmas.evolution.RemovedLemmas.{whole-none}
use Rattle.survey_core.proofs.lemmas.evolution.SplitPatternLemmas.{whole_more}
use Rattle.survey_core.proofs.evolution.split_pattern.with_spaceships.Goals as goal

pub loop-spaceship-init : goal.loop-spaceship-init
loop-spaceship-init c = sym (whole-none c.args.rule.now c.args.time c.args.board c.recall_order.ensures.in_order)

pub at_time-requires-clause-traced : goal.at_time-requires-clause-traced
at_time-requires-clause-traced c =
    subst (λ (spaceship : Spaceship). IsTraced c.args.rule.now c.args.time spaceship) (sym c.spaceship-item.is)
    (c.requires.traced c.loop-spaceship.spaceship-index c.spaceship-item.result c.loop-spaceship-test.true)

pub loop-spaceship-preserved : goal.loop-spaceship-preserved
loop-spaceship-preserved c =
    c.in_ok-whole.ensures
    ∙ whole_more c.args.rule.now c.args.time c.args.board c.args.spaceships.now c.loop-spaceship.spaceship-index c.spaceship-item.result
    c.loop-spaceship.whole c.in_ok-there.there c.loop-spaceship-test.true c.spaceship-item.is c.loop-spaceship.invariant c.in_ok-there.ensures

pub returns : goal.returns
returns c =
    c.loop-spaceship.invariant
    ∙ ap (whole_at c.args.rule.now c.args.time c.args.board) (take_all c.loop-spaceship.spaceship-index c.args.spaceships.now c.loop-spaceship-test.false)
