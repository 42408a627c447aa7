use Rattle.std.proofs.Common.{take}
use Rattle.ranges.specs.Ranges.{ShareNumber}
use Rattle.ranges.proofs.range.Ranges.share_number.Given as goal

abbrev pub invariant-loop-range : goal.invariant-loop-range
invariant-loop-range l = ¬ ShareNumber l.fn.self (take l.range-index l.fn.other)
