use Rattle.std.proofs.Common.{arith, subst}
use Rattle.std.proofs.lemmas.Bool.{false≢true}
use Rattle.plane_core.specs.plane.Generations.{after}
use Rattle.plane_core.specs.plane.Rules.{Numbers}
use Rattle.plane_core.specs.windows.RuleLogic.{rule_of}
use Rattle.plane_core.specs.one_sided.RestlessClusters.{HasRestlessCluster}
use Rattle.plane_core.proofs.lemmas.engine.LeapLemmas.{window_shown}
use Rattle.plane_core.proofs.lemmas.plane.RunLemmas.{in_order-after}
use Rattle.plane_core.proofs.lemmas.plane.OrderLemmas.{some_of}
use Rattle.plane_core.proofs.engine.board.Board.try_boxes.Goals as goal

pub returns-then-tries-eq0 : goal.returns-then-tries-eq0
returns-then-tries-eq0 c = λ e. absurd (false≢true e)

pub returns-then-rules_out_rest : goal.returns-then-rules_out_rest
returns-then-rules_out_rest c = λ _.
    let asked = c.args.asked in
    let board = c.args.self.now in
    let rule = rule_of c.logic-logic.result.now in
    let view = c.in-Some.view in
    let order = c.in-Some.ensures.order in
    let shown = c.generations.ensures board.cells view.at.left view.at.top 0 order
    (window_shown view.at.left view.at.top view.rows c.packed-window.result board.cells c.in-Some.ensures.shown
    c.packed-window.ensures) in
    subst (λ (rule : Numbers). HasRestlessCluster rule (after rule board.cells asked.ahead) asked.horizon asked.period) c.logic-logic.ensures
    (c.rules_out_rest.ensures c.if-rules_out_rest.true (after rule board.cells asked.ahead) view.at.left view.at.top
    (in_order-after rule board.cells asked.ahead order)
    (λ r i a b d f. shown r i (omega arith) (omega arith) (omega arith) (omega arith)))

pub returns : goal.returns
returns c = λ e. absurd (false≢true e)

pub overflow_sub-tries : goal.overflow_sub-tries
overflow_sub-tries c = some_of _ c.if-tries-eq0.false
