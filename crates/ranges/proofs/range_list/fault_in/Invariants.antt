use Rattle.std.proofs.Common.{List}
use Rattle.ranges.specs.declared.range.Range.{Range}
use Rattle.std.specs.Prelude.{option_map}
use Rattle.ranges.proofs.ListLemmas.{Passed, left_of}
use Rattle.ranges.proofs.range_list.fault_in.Given as goal

abbrev pub invariant-loop-remainder : goal.invariant-loop-remainder
invariant-loop-remainder l = (ranges : List Range) × Passed l.text ranges (option_map (λ remainder. remainder.now) l.remainder)

abbrev pub decreases-loop-remainder : goal.decreases-loop-remainder
decreases-loop-remainder l = left_of (option_map (λ remainder. remainder.now) l.remainder)
