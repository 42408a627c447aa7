use Rattle.std.proofs.Common.{drop}
use Rattle.ranges.proofs.RangeLemmas.{Joining}
use Rattle.ranges.proofs.range.joined.Given as goal

abbrev pub invariant-loop-range : goal.invariant-loop-range
invariant-loop-range l = Joining l.ascending l.joined.items l.latest (drop l.range-index l.more)
