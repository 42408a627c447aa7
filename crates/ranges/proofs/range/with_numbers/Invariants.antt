use Rattle.std.proofs.Common.{◌≡◌, filter, take}
use Rattle.ranges.specs.RangeSteps.{has_numbers}
use Rattle.ranges.proofs.range.with_numbers.Given as goal

abbrev pub invariant-loop-range : goal.invariant-loop-range
invariant-loop-range l = l.some.items ≡ filter has_numbers (take l.range-index l.ranges)
