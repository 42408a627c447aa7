use Rattle.std.proofs.Common.{◌≡◌, inl, refl}
use Rattle.std.proofs.KnownBytes.{Appends-nil}
use Rattle.commands.specs.Work.{TellsReports, work_right}
use Rattle.pattern_commands.proofs.AnswerLemmas.{err_of}
use Rattle.commands.proofs.StillLemmas.{reports_accepted}
use Rattle.commands.proofs.TakeLemmas.{Reaches_stopped, Stops_opening}
use Rattle.commands.proofs.WorkLemmas.{reaches_work, whole_lines}
use Rattle.commands.proofs.work.work.Goals as goal

pub returns-in_err-soups-clause-reached : goal.returns-in_err-soups-clause-reached
returns-in_err-soups-clause-reached g c =
    let plan = c.args.plan.now in
    rw (err_of _ _ c.from_residual.ensures.1)
    (Reaches_stopped (work_right plan c.args.worker) c.in_err-soups.field-0.0 _
    (Stops_opening plan (λ job. TellsReports job c.args.worker) c.in_err-soups.field-0.0 c.in_err-soups.ensures.stops)
    (Appends-nil _))

pub returns-clause-reached : goal.returns-clause-reached
returns-clause-reached g c =
    reaches_work c.findings_are_determined.ensures c.one_normal_form.ensures c.args.plan.now c.args.worker
    c.in_ok-soups.soups.job c.in_ok-soups.soups.ranges c.put_all.result _ c.in_ok-soups.ensures.job
    c.in_ok-soups.ensures.ranges c.put_all.ensures

pub returns-in_err-soups-clause-untouched : goal.returns-in_err-soups-clause-untouched
returns-in_err-soups-clause-untouched g c = rw (err_of _ _ c.from_residual.ensures.1) (λ is. refl)

pub returns-clause-untouched : goal.returns-clause-untouched
returns-clause-untouched g c =
    reports_accepted (c.put_all.new.output ≡ c.args.output.now) _ _ _ c.put_all.result _ c.put_all.ensures

pub returns-in_err-soups-clause-whole_lines : goal.returns-in_err-soups-clause-whole_lines
returns-in_err-soups-clause-whole_lines g c = rw (err_of _ _ c.from_residual.ensures.1) (λ is. inl (Appends-nil _))

pub returns-clause-whole_lines : goal.returns-clause-whole_lines
returns-clause-whole_lines g c =
    whole_lines c.args.plan.now c.args.worker
    c.in_ok-soups.soups.job c.in_ok-soups.soups.ranges c.put_all.result _ c.in_ok-soups.ensures.job
    c.in_ok-soups.ensures.ranges c.put_all.ensures
