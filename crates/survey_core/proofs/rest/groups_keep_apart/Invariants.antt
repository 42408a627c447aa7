use Rattle.std.proofs.Common.{◌<◌, ℕ}
use Rattle.survey_core.specs.rest.Groups.{GroupKeeps}
use Rattle.survey_core.proofs.rest.groups_keep_apart.Given as goal

abbrev pub invariant-loop-number : goal.invariant-loop-number
invariant-loop-number l = (k : ℕ) → k < l.number → GroupKeeps l.rule l.groups l.clusters l.horizon k
