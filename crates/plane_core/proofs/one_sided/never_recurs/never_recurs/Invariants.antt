use Rattle.plane_core.specs.one_sided.FollowedPatterns.{IsFollowedInRows}
use Rattle.plane_core.specs.windows.RuleLogic.{rule_of}
use Rattle.plane_core.proofs.one_sided.never_recurs.never_recurs.Given as goal

abbrev pub invariant-loop-size : goal.invariant-loop-size
invariant-loop-size l = IsFollowedInRows (rule_of l.rule) l.start l.now l.made
