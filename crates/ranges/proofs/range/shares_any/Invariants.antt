use Rattle.std.proofs.Common.{◌≡◌, false, take}
use Rattle.std.specs.List.{list_any}
use Rattle.ranges.specs.RangeSteps.{shares}
use Rattle.ranges.proofs.range.shares_any.Given as goal

abbrev pub invariant-loop-other : goal.invariant-loop-other
invariant-loop-other l = list_any (shares l.range) (take l.other-index l.others) ≡ false
