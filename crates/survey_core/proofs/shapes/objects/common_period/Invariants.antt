use Rattle.std.proofs.Common.{◌≤◌, take}
use Rattle.survey_core.specs.shapes.Objects.{IsLeastCommonMultiple}
use Rattle.survey_core.proofs.shapes.objects.common_period.Given as goal

abbrev pub invariant-loop-object : goal.invariant-loop-object
invariant-loop-object l = record {
  least : IsLeastCommonMultiple (take l.object-index l.objects) l.multiple;
  within : l.multiple ≤ l.most;
}
