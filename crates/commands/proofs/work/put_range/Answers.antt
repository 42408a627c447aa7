use Rattle.std.proofs.Common.{◌≡◌, ◌-◌, ℕ, Ok, Err, arith, sym, subst}
use Rattle.std.specs.List.{range_with_len}
use Rattle.pattern_commands.specs.Streams.{stream}
use Rattle.commands.specs.WorkSteps.{Puts, reports_on}
use Rattle.pattern_commands.proofs.AnswerLemmas.{err_of}
use Rattle.commands.proofs.WorkLemmas.{puts_next, puts_nothing, puts_short}
use Rattle.commands.proofs.work.put_range.Goals as goal

pub loop-number-init : goal.loop-number-init
loop-number-init g c =
    let output = c.args.output.now in
    let none : c.args.range.first - c.args.range.first ≡ 0 = omega arith in
    subst (λ (k : ℕ). Puts (reports_on c.args.job.now c.args.worker (range_with_len c.args.range.first k)) (Ok tt)
    (stream g.W.Write.contents output output)) (sym none)
    (puts_nothing c.args.job.now c.args.worker (g.W.Write.contents output.writer) output.failed c.requires.output)

pub put_report-requires-clause-output : goal.put_report-requires-clause-output
put_report-requires-clause-output g c = c.loop-number.invariant.fine

pub returns-in_err-put_report : goal.returns-in_err-put_report
returns-in_err-put_report g c =
    let contents = g.W.Write.contents in
    let first = c.args.range.first in
    let output = stream contents c.args.output.now c.put_report.new.output in
    rw (err_of _ _ c.from_residual.ensures.1)
    (puts_short c.args.job.now c.args.worker first c.loop-number.number c.args.range.count c.in_err-put_report.field-0.0 output
    c.loop-number.auto.number c.loop-number-test.true
    (puts_next c.args.job.now c.args.worker first c.loop-number.number (Err c.in_err-put_report.field-0.0) output.before
    (contents c.loop-number.output.writer) output.after c.loop-number.output.failed output.failed
    c.loop-number.auto.number c.loop-number.invariant c.in_err-put_report.ensures))

pub loop-number-preserved : goal.loop-number-preserved
loop-number-preserved g c =
    let contents = g.W.Write.contents in
    let output = stream contents c.args.output.now c.put_report.new.output in
    puts_next c.args.job.now c.args.worker c.args.range.first c.loop-number.number (Ok tt) output.before
    (contents c.loop-number.output.writer) output.after c.loop-number.output.failed output.failed
    c.loop-number.auto.number c.loop-number.invariant c.in_ok-put_report.ensures
