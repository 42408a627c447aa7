use Rattle.std.proofs.Common.{inl, inr, sym}
use Rattle.pattern_commands.proofs.AnswerLemmas.{err_of}
use Rattle.commands.proofs.opening.soups_of.Goals as goal

pub returns-in_err-job-clause-stops : goal.returns-in_err-job-clause-stops
returns-in_err-job-clause-stops c = rw (err_of _ _ c.from_residual.ensures.1) (inl (sym c.in_err-job.ensures))

pub returns-in_err-ranges-clause-stops : goal.returns-in_err-ranges-clause-stops
returns-in_err-ranges-clause-stops c =
    rw (err_of _ _ c.from_residual-in_err-ranges.ensures.1)
    (inr (c.in_ok-job.job, sym c.in_ok-job.ensures, c.in_err-ranges.ensures.stops))
