use Rattle.std.proofs.Common.{◌≡◌, ◌∙◌, ◌+◌, ◌*◌, ◌%◌, arith, inl, inr, subst}
use Rattle.std.proofs.lemmas.Bool.{cases_lt}
use Rattle.std.proofs.lemmas.Bool.Decides.{Decides-eqb}
use Rattle.survey_core.specs.shapes.Objects.{IsMultiple}
use Rattle.survey_core.proofs.lemmas.shapes.ObjectLemmas.{first_common, multiple_then, none_common}
use Rattle.survey_core.proofs.shapes.objects.joint_multiple.Goals as goal

pub returns-then-from-period-eq0-clause-least : goal.returns-then-from-period-eq0-clause-least
returns-then-from-period-eq0-clause-least c = first_common c.args.one c.args.period c.loop-below.below c.loop-below.invariant

-- an iteration finds one more multiple of `one` that the period doesn't divide
pub loop-below-preserved : goal.loop-below-preserved
loop-below-preserved c = λ j low divides. elim (cases_lt j c.loop-below.below) [
  | inl before ↦ c.loop-below.invariant j before divides
  | inr last ↦
      let same : j ≡ c.loop-below.below = omega (arith, low, last) in
      let multiple = (c.loop-below.below + 1) * c.args.one in
      let is : IsMultiple multiple c.args.period = subst (λ x. IsMultiple ((x + 1) * c.args.one) c.args.period) same divides in
      c.if-from-period-eq0.false ((λ i. c.from.ensures i % c.args.period) ∙ (Decides-eqb (multiple % c.args.period) 0).0 ((multiple_then multiple c.args.period).1 is))
]

pub returns-clause-none : goal.returns-clause-none
returns-clause-none c =
    none_common c.args.one c.args.period c.loop-below.below c.args.most c.requires.some (omega (arith, c.loop-below-test.false)) c.loop-below.invariant
