use Rattle.std.proofs.Common.{◌≡◌, map, take}
use Rattle.survey_core.specs.rest.Alone.{alone_at}
use Rattle.survey_core.specs.rest.Groups.{members}
use Rattle.survey_core.proofs.rest.members.Given as goal

abbrev pub invariant-loop-place : goal.invariant-loop-place
invariant-loop-place l = l.members.items ≡ map (alone_at l.rule 0) (members l.number (take l.place l.groups) (take l.place l.clusters))
