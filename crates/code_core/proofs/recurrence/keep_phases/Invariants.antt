use Rattle.code_core.specs.Recurrences.{Follows}
use Rattle.code_core.proofs.recurrence.keep_phases.Given as goal

abbrev pub invariant-loop-age : goal.invariant-loop-age
invariant-loop-age l = Follows l.rule l.pattern l.age l.phases.items l.latest
