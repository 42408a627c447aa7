use Rattle.std.proofs.Common.{◌≡◌, filter, take}
use Rattle.haul_core.specs.Missing.{numbers_of}
use Rattle.haul_core.specs.MissingSteps.{has_no_worker}
use Rattle.haul_core.proofs.book.missing.missing.Given as goal

abbrev pub invariant-loop-range : goal.invariant-loop-range
invariant-loop-range l = l.missing.items ≡ filter (has_no_worker l.worker_of.entries) (numbers_of (take l.range-index l.ranges))
