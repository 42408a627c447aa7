use Rattle.std.proofs.Common.{◌≡◌, ◌≢◌, ◌++◌, append-nil, sym, subst, true, List, []}
use Rattle.std.proofs.lemmas.List.{take_all}
use Rattle.std.proofs.lemmas.Result.{IfOk-from_err}
use Rattle.plane_core.specs.declared.plane.cell.Cell.{Cell}
use Rattle.plane_core.specs.plane.Cells.{InOrder}
use Rattle.plane_core.specs.plane.Generations.{lies_within}
use Rattle.survey_core.specs.shapes.RecurringShapes.{RecursWithin}
use Rattle.survey_core.specs.shapes.Envelopes.{AreEnvelopes, IsEnvelope}
use Rattle.survey_core.specs.UnderWay.{survey_reach}
use Rattle.survey_core.proofs.lemmas.shapes.EnvelopeLemmas.{envelopes_after}
use Rattle.survey_core.proofs.shapes.memo.Memo.other_envelopes.Goals as goal

pub loop-pattern-init : goal.loop-pattern-init
loop-pattern-init c = λ first are.
    subst (λ (parts : List (List Cell)). AreEnvelopes c.args.rule.now c.args.limit parts c.args.known.items) (sym (append-nil first)) are

-- the case of a pattern that doesn't recur
pub returns-in_default-clause-never : goal.returns-in_default-clause-never
returns-in_default-clause-never c = λ all.
    let never : ¬ RecursWithin c.args.rule.now c.args.limit c.pattern-item.result = rw c.in_default.is at c.in_ok-envelope.ensures.never in
    never (subst (RecursWithin c.args.rule.now c.args.limit) (sym c.pattern-item.is)
    (all c.loop-pattern.pattern-index c.pattern-item.result c.loop-pattern-test.true))

-- an iteration adds one more envelope
pub loop-pattern-preserved : goal.loop-pattern-preserved
loop-pattern-preserved c = λ first are.
    let found : IsEnvelope c.args.rule.now c.args.limit c.pattern-item.result c.in-Some.envelope = rw c.in-Some.is at c.in_ok-envelope.ensures.envelope in
    envelopes_after c.args.rule.now c.args.limit first c.args.others.now c.loop-pattern.pattern-index c.pattern-item.result c.loop-pattern.envelopes.items
    c.in-Some.envelope c.push.new.self.items c.loop-pattern-test.true c.pattern-item.is (c.loop-pattern.invariant first are) found c.in_ok-push.ensures.items

pub returns-clause-envelopes : goal.returns-clause-envelopes
returns-clause-envelopes c = λ first are.
    subst (λ (parts : List (List Cell)). AreEnvelopes c.args.rule.now c.args.limit (first ++ parts) c.loop-pattern.envelopes.items)
    (take_all c.loop-pattern.pattern-index c.args.others.now c.loop-pattern-test.false) (c.loop-pattern.invariant first are)

pub envelope-requires-clause-order : goal.envelope-requires-clause-order
envelope-requires-clause-order c =
    subst InOrder (sym c.pattern-item.is)
    (c.requires.order c.loop-pattern.pattern-index c.pattern-item.result c.loop-pattern-test.true)

pub envelope-requires-clause-some : goal.envelope-requires-clause-some
envelope-requires-clause-some c =
    subst (λ (pattern : List Cell). pattern ≢ []) (sym c.pattern-item.is)
    (c.requires.some c.loop-pattern.pattern-index c.pattern-item.result c.loop-pattern-test.true)

pub envelope-requires-clause-near : goal.envelope-requires-clause-near
envelope-requires-clause-near c =
    subst (λ (pattern : List Cell). lies_within survey_reach pattern ≡ true) (sym c.pattern-item.is)
    (c.requires.near c.loop-pattern.pattern-index c.pattern-item.result c.loop-pattern-test.true)

pub returns-in_err-envelope-clause-envelopes : goal.returns-in_err-envelope-clause-envelopes
returns-in_err-envelope-clause-envelopes c = λ first are. IfOk-from_err _ _ c.from_residual.ensures.0

pub returns-in_err-envelope-clause-never : goal.returns-in_err-envelope-clause-never
returns-in_err-envelope-clause-never c = IfOk-from_err _ _ c.from_residual.ensures.0

pub returns-in_err-push-clause-envelopes : goal.returns-in_err-push-clause-envelopes
returns-in_err-push-clause-envelopes c = λ first are. IfOk-from_err _ _ c.from_residual-in_err-push.ensures.0

pub returns-in_err-push-clause-never : goal.returns-in_err-push-clause-never
returns-in_err-push-clause-never c = IfOk-from_err _ _ c.from_residual-in_err-push.ensures.0

pub envelope-requires-clause-least : goal.envelope-requires-clause-least
envelope-requires-clause-least c = c.requires.least

pub envelope-requires-clause-most : goal.envelope-requires-clause-most
envelope-requires-clause-most c = c.requires.most
