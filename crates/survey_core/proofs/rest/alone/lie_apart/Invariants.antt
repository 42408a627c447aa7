use Rattle.survey_core.proofs.lemmas.rest.ApartLemmas.{LieApartUpTo}
use Rattle.survey_core.proofs.rest.alone.lie_apart.Given as goal

abbrev pub invariant-loop-place : goal.invariant-loop-place
invariant-loop-place l = LieApartUpTo l.place l.clusters
