use Rattle.std.proofs.Common.{◌≡◌, take}
use Rattle.survey_core.specs.rest.Alone.{clusters_of, latest_of}
use Rattle.survey_core.proofs.rest.alone.have_recurred.Given as goal

abbrev pub invariant-loop-alone : goal.invariant-loop-alone
invariant-loop-alone l = latest_of (take l.alone-index l.clusters) ≡ clusters_of (take l.alone-index l.clusters)
