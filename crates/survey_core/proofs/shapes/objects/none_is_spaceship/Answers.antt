use Rattle.std.proofs.Common.{◌≢◌, ℕ, refl, sym}
use Rattle.std.proofs.lemmas.List.{take_all}
use Rattle.std.proofs.lemmas.List.Elements.{All-same}
use Rattle.code_core.specs.Apgcodes.{kind_in}
use Rattle.code_core.specs.declared.apgcode.Apgcode.{Apgcode}
use Rattle.code_core.specs.declared.apgcode.Kind.TheVariants.{Ship}
use Rattle.survey_core.proofs.shapes.objects.none_is_spaceship.Goals as goal

abbrev IsNoSpaceship : Apgcode × ℕ → Type 0
IsNoSpaceship object = kind_in object.0 ≢ Ship

pub returns : goal.returns
returns c = (
  λ _. All-same IsNoSpaceship c.args.objects.now _
      (sym (take_all c.loop-object.object-index c.args.objects.now c.loop-object-test.false)) c.loop-object.invariant,
  λ _. refl,
)
