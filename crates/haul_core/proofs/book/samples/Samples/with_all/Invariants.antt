use Rattle.std.proofs.Common.{◌≡◌, drop}
use Rattle.haul_core.specs.SampleSteps.{with_each}
use Rattle.haul_core.proofs.book.samples.Samples.with_all.Given as goal

abbrev pub invariant-loop-number : goal.invariant-loop-number
invariant-loop-number l = with_each l.least (drop l.number-index l.other) ≡ with_each l.fn.self l.other
