use Rattle.plane_core.proofs.lemmas.plane.RuleNumbers.{ReadUpTo}
use Rattle.plane_core.proofs.plane.rule.read_numbers.Given as goal

abbrev pub invariant-loop-i : goal.invariant-loop-i
invariant-loop-i g l = ReadUpTo l.i-end l.least l.text l.i l.logic l.remainder
