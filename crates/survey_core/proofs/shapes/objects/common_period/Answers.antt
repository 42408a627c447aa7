use Rattle.std.proofs.Common.{◌∙◌, ap, sym, subst, take, ℕ, List}
use Rattle.survey_core.specs.shapes.Objects.{IsMultiple, period_in}
use Rattle.survey_core.proofs.lemmas.shapes.ObjectLemmas.{common_before, least_more, multiple_of_least}
use Rattle.survey_core.proofs.shapes.objects.common_period.Goals as goal

-- the case in which the periods of the first i objects and of object i have no common multiple up to `most`
pub returns-in_default-clause-none : goal.returns-in_default-clause-none
returns-in_default-clause-none c = λ m common.
    let objects = c.args.objects.now in
    let i = c.loop-object.object-index in
    let item = c.object-item.result in
    c.in_default.ensures.none m common.some
    (multiple_of_least (take i objects) c.loop-object.multiple m c.loop-object.invariant.least (common_before objects i m common))
    (subst (IsMultiple m) (ap (λ (object : List ℕ × ℕ). period_in object.0) (sym c.object-item.is) ∙ sym c.period_of.ensures)
    (common.each i item c.loop-object-test.true))

pub loop-object-preserved : goal.loop-object-preserved
loop-object-preserved c =
    let item = c.object-item.result in
    record {
      least = least_more c.args.objects.now c.loop-object.object-index c.loop-object.multiple c.in-Some.next item c.loop-object-test.true c.object-item.is
          c.loop-object.invariant.least c.in-Some.ensures.some c.in-Some.ensures.of_one (subst (IsMultiple c.in-Some.next) c.period_of.ensures c.in-Some.ensures.of_period)
          (λ m some of_one of_item. c.in-Some.ensures.least m some of_one (subst (IsMultiple m) (sym c.period_of.ensures) of_item));
      within = c.in-Some.ensures.within;
    }
