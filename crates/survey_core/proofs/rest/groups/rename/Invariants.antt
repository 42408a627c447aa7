use Rattle.std.proofs.Common.{◌≡◌, ◌<◌, ◌≤◌, ℕ, get_or}
use Rattle.survey_core.specs.rest.Groups.{renamed}
use Rattle.survey_core.proofs.rest.groups.rename.Given as goal

abbrev pub invariant-loop-group : goal.invariant-loop-group
invariant-loop-group l = record {
  done : (k : ℕ) → k < l.group-index → get_or l.groups k 0 ≡ renamed l.from l.to (get_or l.fn.groups k 0);
  left : (k : ℕ) → l.group-index ≤ k → get_or l.groups k 0 ≡ get_or l.fn.groups k 0;
}
