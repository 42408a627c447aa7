use Rattle.std.proofs.Common.{◌∙◌, ◌↔◌, ◌<◌, ◌≤◌, ◌≢◌, arith, refl, sym, subst, ℕ, All, IfNone, IfSome, IsTrue, List, None, Option, Some, is_some}
use Rattle.std.proofs.lemmas.Bool.{false≢true}
use Rattle.code_core.specs.Apgcodes.{kind_in}
use Rattle.code_core.specs.declared.apgcode.Kind.TheVariants.{Ship}
use Rattle.survey_core.specs.shapes.Objects.{IsCommonMultiple, IsLeastCommonMultiple, StayForGood}
use Rattle.survey_core.proofs.shapes.objects.Objects.stay_for_good.Goals as goal

-- if none of the objects is a spaceship, `multiple` is `Some` if and only if they stay for good
found : (objects : List (List ℕ × ℕ)) (horizon : ℕ) (multiple : Option ℕ) → All (λ object. kind_in object.0 ≢ Ship) objects
    → IfSome multiple (IsLeastCommonMultiple objects) → IfSome multiple (λ m. m ≤ horizon)
    → IfNone multiple ((m : ℕ) → IsCommonMultiple objects m → horizon < m)
    → IsTrue (is_some multiple) ↔ StayForGood horizon objects
found objects horizon (Some m) none least within past = (λ _. record { none = none; multiple = m; least = least; within = within }, λ _. refl)
found objects horizon None none least within past = (
  λ e. absurd (false≢true e),
  λ good. absurd (let far = past good.multiple good.least.common in let near = good.within in omega (arith, far, near)),
)

pub returns-then-none_is_spaceship : goal.returns-then-none_is_spaceship
returns-then-none_is_spaceship c =
    let law = found c.as_slice-objects.result.now c.args.horizon c.common_period.result (c.none_is_spaceship.ensures.0 c.if-none_is_spaceship.true)
    c.common_period.ensures.least c.common_period.ensures.within c.common_period.ensures.none in
    let same = c.as_slice-objects.ensures.objects in (
      λ e. subst (StayForGood c.args.horizon) same (law.0 (sym c.is_some.ensures ∙ e)),
      λ good. c.is_some.ensures ∙ law.1 (subst (StayForGood c.args.horizon) (sym same) good),
    )
