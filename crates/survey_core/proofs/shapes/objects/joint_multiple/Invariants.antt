use Rattle.std.proofs.Common.{◌+◌, ◌*◌, ◌<◌, ℕ}
use Rattle.survey_core.specs.shapes.Objects.{IsMultiple}
use Rattle.survey_core.proofs.shapes.objects.joint_multiple.Given as goal

abbrev pub invariant-loop-below : goal.invariant-loop-below
invariant-loop-below l = (j : ℕ) → j < l.below → ¬ IsMultiple ((j + 1) * l.one) l.period
