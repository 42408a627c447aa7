use Rattle.survey_core.specs.rest.Alone.{LiesApartFrom}
use Rattle.survey_core.proofs.rest.alone.lies_apart.Given as goal

abbrev pub invariant-loop-other : goal.invariant-loop-other
invariant-loop-other l = LiesApartFrom l.place l.other l.clusters
