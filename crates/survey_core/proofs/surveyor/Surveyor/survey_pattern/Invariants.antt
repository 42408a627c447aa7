use Rattle.std.proofs.Common.{◌≡◌, ◌-◌}
use Rattle.plane_core.specs.plane.Generations.{after}
use Rattle.survey_core.specs.evolution.Evolutions.{IsKept, kept}
use Rattle.survey_core.specs.Findings.{NoRestBefore}
use Rattle.survey_core.specs.rest.KnownRestless.{AreKnownRestless}
use Rattle.survey_core.specs.Profiles.{IsCheckpoint}
use Rattle.survey_core.proofs.surveyor.Surveyor.survey_pattern.Given as goal

abbrev pub decreases-loop-evolution : goal.decreases-loop-evolution
decreases-loop-evolution l = l.limit - l.checkpoint

abbrev pub invariant-loop-evolution : goal.invariant-loop-evolution
invariant-loop-evolution l = record {
  by_rule : IsKept l.rule l.evolution;
  here : IsCheckpoint l.profile l.checkpoint;
  latest : kept l.rule l.evolution ≡ after l.rule l.fn.pattern l.checkpoint;
  known_restless : AreKnownRestless l.rule l.profile (kept l.rule l.evolution) l.checkpoint l.known_restless;
  before : NoRestBefore l.rule l.profile l.fn.pattern l.checkpoint;
}
