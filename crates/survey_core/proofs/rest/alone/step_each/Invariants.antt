use Rattle.std.proofs.Common.{◌≡◌, ◌++◌, drop, map, take}
use Rattle.survey_core.specs.rest.Alone.{stepped}
use Rattle.survey_core.proofs.rest.alone.step_each.Given as goal

abbrev pub invariant-loop-cluster : goal.invariant-loop-cluster
invariant-loop-cluster l = l.clusters ≡ map (stepped l.rule) (take l.cluster-index l.fn.clusters) ++ drop l.cluster-index l.fn.clusters
