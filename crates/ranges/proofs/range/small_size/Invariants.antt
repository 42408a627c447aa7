use Rattle.std.proofs.Common.{◌≡◌, ◌≤◌, ◌^◌, take}
use Rattle.ranges.specs.Ranges.{AreBelow, number_bound, size_of}
use Rattle.ranges.proofs.range.small_size.Given as goal

abbrev pub invariant-loop-range : goal.invariant-loop-range
invariant-loop-range l = record {
  size : l.size ≡ size_of (take l.range-index l.ranges);
  few : l.size ≤ 2 ^ 24;
  below : AreBelow number_bound (take l.range-index l.ranges);
}
