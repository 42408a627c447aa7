use Rattle.std.proofs.Common.{◌∙◌, ◌+ℤ◌, FitsSigned, int_lt, pos, rules, w32, w64}
use Rattle.std.proofs.lemmas.Int.{to_z-of_z}
use Rattle.survey_core.proofs.shapes.envelope_bounds.is_past.Goals as goal

pub returns : goal.returns
returns c =
    let end_fits : FitsSigned w64 c.placed.result = search rules in
    let past_fits : FitsSigned w64 c.two_past.result = search rules in
    let begin_fits : FitsSigned w64 c.placed-2.result = search rules in
    let end = to_z-of_z w64 c.placed.result end_fits ∙ c.placed.ensures.place
    ∙ (λ i. to_z-of_z w32 c.args.end c.ranges.end i +ℤ to_z-of_z w64 c.args.t c.ranges.t i) in
    let past = to_z-of_z w64 c.two_past.result past_fits ∙ c.two_past.ensures ∙ (λ i. end i +ℤ pos 2) in
    let begin = to_z-of_z w64 c.placed-2.result begin_fits ∙ c.placed-2.ensures.place
    ∙ (λ i. to_z-of_z w32 c.args.begin c.ranges.begin i +ℤ to_z-of_z w64 c.args.s c.ranges.s i) in
    λ i. int_lt (past i) (begin i)
