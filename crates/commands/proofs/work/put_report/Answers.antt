use Rattle.pattern_commands.specs.Streams.{stream}
use Rattle.pattern_commands.proofs.AnswerLemmas.{err_of}
use Rattle.commands.proofs.WorkLemmas.{puts_failed, puts_no_memory, puts_one}
use Rattle.std.proofs.Common.{◌∷◌, []}
use Rattle.commands.proofs.work.put_report.Goals as goal

pub returns-in-Err-Memory : goal.returns-in-Err-Memory
returns-in-Err-Memory g c = puts_no_memory c.args.job.now c.args.worker (c.args.number ∷ []) (g.W.Write.contents c.args.output.now.writer) c.args.output.now.failed _

pub returns-in_err-put_line : goal.returns-in_err-put_line
returns-in_err-put_line g c =
    let made = c.in-Ok.ensures.report in
    rw (err_of _ _ c.from_residual.ensures.1)
    (puts_failed c.args.job.now c.args.worker c.args.number c.in-Ok.report (stream g.W.Write.contents c.args.output.now c.put_line.new.output) c.in_err-put_line.field-0.0
    (record { job_is = made.job_is; worker_is = made.worker_is; number_is = made.number_is; found = made.lawful })
    c.in_err-put_line.ensures.prefix c.in_err-put_line.ensures.remembers)

pub returns : goal.returns
returns g c =
    let made = c.in-Ok.ensures.report in
    puts_one c.args.job.now c.args.worker c.args.number c.in-Ok.report (stream g.W.Write.contents c.args.output.now c.put_line.new.output)
    (record { job_is = made.job_is; worker_is = made.worker_is; number_is = made.number_is; found = made.lawful })
    c.in_ok-put_line.ensures.whole c.in_ok-put_line.ensures.remembers
