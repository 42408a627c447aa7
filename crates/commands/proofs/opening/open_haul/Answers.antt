use Rattle.std.proofs.Common.{inl, sym}
use Rattle.pattern_commands.proofs.AnswerLemmas.{err_of}
use Rattle.commands.proofs.TakeLemmas.{opened_for, not_opened}
use Rattle.commands.proofs.opening.open_haul.Goals as goal

pub returns-in_err-job-clause-stops : goal.returns-in_err-job-clause-stops
returns-in_err-job-clause-stops c = rw (err_of _ _ c.from_residual.ensures.1) (inl (sym c.in_err-job.ensures))

pub returns-clause-opened : goal.returns-clause-opened
returns-clause-opened c =
    opened_for c.args.plan.now c.args.workers c.in_ok-job.job (sym c.in_ok-job.ensures) c.haul_for.result
    c.haul_for.ensures.opened

pub returns-clause-stops : goal.returns-clause-stops
returns-clause-stops c =
    not_opened c.args.plan.now c.in_ok-job.job (sym c.in_ok-job.ensures) c.haul_for.result c.haul_for.ensures.stops
