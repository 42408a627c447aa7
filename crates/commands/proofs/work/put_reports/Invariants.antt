use Rattle.std.proofs.Common.{Ok, take}
use Rattle.pattern_commands.specs.Streams.{stream}
use Rattle.haul_core.specs.Missing.{numbers_of}
use Rattle.commands.specs.WorkSteps.{Puts, reports_on}
use Rattle.commands.proofs.work.put_reports.Given as goal

-- the reports on the ranges before the current one were written
abbrev pub invariant-loop-range : goal.invariant-loop-range
invariant-loop-range g l =
    Puts (reports_on l.fn.job l.fn.worker (numbers_of (take l.range-index l.ranges))) (Ok tt)
    (stream g.W.Write.contents l.fn.output l.output)
