use Rattle.std.proofs.Common.{◌∙◌, ◌+ℤ◌, ap, sym, ℤ, ℕ, add-one, arith}
use Rattle.survey_core.specs.declared.shapes.envelope_bounds.Gaps.{Gaps}
use Rattle.survey_core.specs.shapes.Envelopes.{gap_stays, is_gap, times}
use Rattle.survey_core.proofs.lemmas.shapes.EnvelopeLemmas.{clear_from_here, clear_more, offset_small}
use Rattle.survey_core.proofs.shapes.envelope_bounds.are_clear_for.Goals as goal

-- the case of boxes with a gap that no later cycle narrows
pub returns-then-stay : goal.returns-then-stay
returns-then-stay c = λ e.
    clear_from_here c.args.one.now c.args.other.now c.loop.counter c.args.cycles c.loop.offset.x c.loop.offset.y c.step-step.result.x c.step-step.result.y
    c.step-step.ensures.x c.step-step.ensures.y c.loop.invariant.x c.loop.invariant.y c.loop.invariant.clear
    (ap (λ (gaps : Gaps). gap_stays gaps c.step-step.result.x c.step-step.result.y) (sym c.between-gaps.ensures) ∙ sym c.stay.ensures ∙ c.if-stay.true)

pub between-gaps-requires-clause-across : goal.between-gaps-requires-clause-across
between-gaps-requires-clause-across c =
    let small = offset_small c.loop.counter c.args.cycles c.step-step.result.x c.loop.offset.x c.loop-test.true c.requires c.step-step.ensures.across
    c.loop.invariant.x in
    omega (arith, small)

pub between-gaps-requires-clause-down : goal.between-gaps-requires-clause-down
between-gaps-requires-clause-down c =
    let small = offset_small c.loop.counter c.args.cycles c.step-step.result.y c.loop.offset.y c.loop-test.true c.requires c.step-step.ensures.down
    c.loop.invariant.y in
    omega (arith, small)

pub moved-offset-requires-clause-across : goal.moved-offset-requires-clause-across
moved-offset-requires-clause-across c =
    offset_small c.loop.counter c.args.cycles c.step-step.result.x c.loop.offset.x c.loop-test.true c.requires c.step-step.ensures.across c.loop.invariant.x

pub moved-offset-requires-clause-down : goal.moved-offset-requires-clause-down
moved-offset-requires-clause-down c =
    offset_small c.loop.counter c.args.cycles c.step-step.result.y c.loop.offset.y c.loop-test.true c.requires c.step-step.ensures.down c.loop.invariant.y

-- an iteration tests one more cycle
pub loop-preserved : goal.loop-preserved
loop-preserved c = record {
  x = c.moved-offset.ensures.x ∙ ap (λ (o : ℤ). o +ℤ c.step-step.result.x) c.loop.invariant.x
      ∙ ap (λ (m : ℕ). times m c.step-step.result.x) (sym (add-one c.loop.counter));
  y = c.moved-offset.ensures.y ∙ ap (λ (o : ℤ). o +ℤ c.step-step.result.y) c.loop.invariant.y
      ∙ ap (λ (m : ℕ). times m c.step-step.result.y) (sym (add-one c.loop.counter));
  clear = clear_more c.args.one.now c.args.other.now c.loop.counter c.loop.offset.x c.loop.offset.y
      (c.loop.invariant.x ∙ ap (times c.loop.counter) c.step-step.ensures.x) (c.loop.invariant.y ∙ ap (times c.loop.counter) c.step-step.ensures.y)
      c.loop.invariant.clear (ap is_gap (sym c.between-gaps.ensures) ∙ c.if-not-are_clear.false);
}
