use Rattle.std.proofs.Common.{◌+◌, Ok, Err}
use Rattle.pattern_commands.specs.Streams.{stream}
use Rattle.pattern_commands.proofs.AnswerLemmas.{err_of}
use Rattle.commands.proofs.WorkLemmas.{puts_early, puts_more, puts_nothing}
use Rattle.commands.proofs.work.put_reports.Goals as goal

pub loop-range-init : goal.loop-range-init
loop-range-init g c =
    let output = c.args.output.now in
    puts_nothing c.args.job.now c.args.worker (g.W.Write.contents output.writer) output.failed c.requires.output

pub put_range-requires-clause-output : goal.put_range-requires-clause-output
put_range-requires-clause-output g c = c.loop-range.invariant.fine

pub returns-in_err-put_range : goal.returns-in_err-put_range
returns-in_err-put_range g c =
    let contents = g.W.Write.contents in
    let ranges = c.args.ranges.now in
    let i = c.loop-range.range-index in
    let output = stream contents c.args.output.now c.put_range.new.output in
    rw (err_of _ _ c.from_residual.ensures.1)
    (puts_early c.args.job.now c.args.worker ranges (i + 1) c.in_err-put_range.field-0.0 output
    (puts_more c.args.job.now c.args.worker ranges i _ (Err c.in_err-put_range.field-0.0) output.before (contents c.loop-range.output.writer) output.after
    c.loop-range.output.failed output.failed c.loop-range-test.true c.loop-range.invariant c.in_err-put_range.ensures))

pub loop-range-preserved : goal.loop-range-preserved
loop-range-preserved g c =
    let contents = g.W.Write.contents in
    let output = stream contents c.args.output.now c.put_range.new.output in
    puts_more c.args.job.now c.args.worker c.args.ranges.now c.loop-range.range-index _ (Ok tt) output.before (contents c.loop-range.output.writer)
    output.after c.loop-range.output.failed output.failed c.loop-range-test.true c.loop-range.invariant c.in_ok-put_range.ensures
