use Rattle.std.proofs.Common.{◌^◌, arith, length-take-le, sym}
use Rattle.commands.proofs.GatherLemmas.{looked_prefix, ok_whole}
use Rattle.commands.proofs.gather.report_of.Goals as goal

pub slice_bounds-prefix_fault-end : goal.slice_bounds-prefix_fault-end
slice_bounds-prefix_fault-end c = sym (length-take-le (2 ^ 24) c.args.kept.now (omega (arith, c.if-kept-gt-LINE_LIMIT.true)))

pub returns-then-kept-gt-LINE_LIMIT : goal.returns-then-kept-gt-LINE_LIMIT
returns-then-kept-gt-LINE_LIMIT c line is = looked_prefix c.args.job.now c.args.kept.now line _ is c.if-kept-gt-LINE_LIMIT.true c.in_ok-place.ensures

pub returns : goal.returns
returns c line is = ok_whole c.args.job.now c.args.kept.now line c.checked_report.result is c.if-kept-gt-LINE_LIMIT.false c.checked_report.ensures
