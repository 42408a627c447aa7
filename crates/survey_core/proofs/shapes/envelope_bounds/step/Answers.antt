use Rattle.std.proofs.Common.{◌∙◌, ◌-ℤ◌, ◌≤◌, ◌^◌, FitsSigned, rules, subst, sym, unsigned_abs, w32, w64, ℤ}
use Rattle.std.proofs.lemmas.Int.{to_z-of_z}
use Rattle.survey_core.proofs.shapes.envelope_bounds.step.Goals as goal

pub returns-clause-x : goal.returns-clause-x
returns-clause-x c =
    let fits : FitsSigned w64 c.difference.result = search rules in
    let one : FitsSigned w32 c.args.one.now.recurrence.dx = search rules in
    let other : FitsSigned w32 c.args.other.now.recurrence.dx = search rules in
    to_z-of_z w64 c.difference.result fits ∙ c.difference.ensures.step
    ∙ (λ i. to_z-of_z w32 c.args.other.now.recurrence.dx other i -ℤ to_z-of_z w32 c.args.one.now.recurrence.dx one i)

pub returns-clause-y : goal.returns-clause-y
returns-clause-y c =
    let fits : FitsSigned w64 c.difference-2.result = search rules in
    let one : FitsSigned w32 c.args.one.now.recurrence.dy = search rules in
    let other : FitsSigned w32 c.args.other.now.recurrence.dy = search rules in
    to_z-of_z w64 c.difference-2.result fits ∙ c.difference-2.ensures.step
    ∙ (λ i. to_z-of_z w32 c.args.other.now.recurrence.dy other i -ℤ to_z-of_z w32 c.args.one.now.recurrence.dy one i)

pub returns-clause-across : goal.returns-clause-across
returns-clause-across c =
    let fits : FitsSigned w64 c.difference.result = search rules in
    subst (λ (d : ℤ). unsigned_abs d ≤ 2 ^ 33) (sym (to_z-of_z w64 c.difference.result fits)) c.difference.ensures.small

pub returns-clause-down : goal.returns-clause-down
returns-clause-down c =
    let fits : FitsSigned w64 c.difference-2.result = search rules in
    subst (λ (d : ℤ). unsigned_abs d ≤ 2 ^ 33) (sym (to_z-of_z w64 c.difference-2.result fits))
    c.difference-2.ensures.small
