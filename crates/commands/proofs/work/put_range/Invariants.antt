use Rattle.std.proofs.Common.{◌-◌, Ok}
use Rattle.std.specs.List.{range_with_len}
use Rattle.pattern_commands.specs.Streams.{stream}
use Rattle.commands.specs.WorkSteps.{Puts, reports_on}
use Rattle.commands.proofs.work.put_range.Given as goal

-- the reports on all numbers of the range that are below the current number were written
abbrev pub invariant-loop-number : goal.invariant-loop-number
invariant-loop-number g l =
    Puts (reports_on l.fn.job l.fn.worker (range_with_len l.fn.range.first (l.number - l.fn.range.first))) (Ok tt)
    (stream g.W.Write.contents l.fn.output l.output)
