use Rattle.std.proofs.Common.{length}
use Rattle.ranges.proofs.DecimalLemmas.{Reading}
use Rattle.ranges.proofs.range_list.more_digits.Given as goal

abbrev pub invariant-loop-digit : goal.invariant-loop-digit
invariant-loop-digit l = Reading l.first l.text l.number l.remainder

abbrev pub decreases-loop-digit : goal.decreases-loop-digit
decreases-loop-digit l = length l.remainder
