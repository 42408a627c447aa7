use Rattle.std.proofs.Common.{◌≡◌, ◌≤◌, ◌==◌, filter, length, take}
use Rattle.survey_core.proofs.rest.count_of.Given as goal

abbrev pub invariant-loop-group : goal.invariant-loop-group
invariant-loop-group l = record {
  is : l.count ≡ length (filter (λ group. group == l.number) (take l.group-index l.groups));
  few : l.count ≤ l.group-index;
}
