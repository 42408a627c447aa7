use Rattle.std.proofs.Common.{◌≢◌, All, take}
use Rattle.code_core.specs.Apgcodes.{kind_in}
use Rattle.code_core.specs.declared.apgcode.Kind.TheVariants.{Ship}
use Rattle.survey_core.proofs.shapes.objects.none_is_spaceship.Given as goal

abbrev pub invariant-loop-object : goal.invariant-loop-object
invariant-loop-object l = All (λ object. kind_in object.0 ≢ Ship) (take l.object-index l.objects)
