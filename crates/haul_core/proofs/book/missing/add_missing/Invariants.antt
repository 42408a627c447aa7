use Rattle.std.proofs.Common.{◌≡◌, ◌++◌, filter}
use Rattle.haul_core.specs.Missing.{numbers_of_range}
use Rattle.haul_core.specs.MissingSteps.{has_no_worker}
use Rattle.haul_core.proofs.MissingLemmas.{adds}
use Rattle.haul_core.proofs.book.missing.add_missing.Given as goal

-- the list, followed by the missing numbers of the range from the current number on, is the old list, followed by all
-- missing numbers of the range
abbrev pub invariant-loop-number : goal.invariant-loop-number
invariant-loop-number l =
    l.missing.items ++ adds l.worker_of.entries l.number-counter l.number-end
    ≡ l.fn.missing.items ++ filter (has_no_worker l.worker_of.entries) (numbers_of_range l.range)
