use Rattle.std.proofs.Common.{◌∙◌, refl, sym}
use Rattle.commands.proofs.LateLemmas.{put_after_failure, put_early, put_late}
use Rattle.commands.proofs.report_sink.ReportSinkProgressObserver.report.Goals as goal
use Rattle.commands.proofs.report_sink.ReportSinkProgressObserver.report.Goals.{then-not-is_late-via-then-not-is_late, then-not-is_late-via-else-not-is_late+then-failed}

pub returns-then-not-is_late : goal.returns-then-not-is_late
returns-then-not-is_late g c = (
  refl,
  refl,
  refl,
  elim c.then-not-is_late.branch [
    | then-not-is_late-via-then-not-is_late w ↦ put_early _ _ _ c.is_late-is_late.ensures.right _ (sym c.is_late-is_late.ensures.late ∙ w.if-not-is_late.true)
    | then-not-is_late-via-else-not-is_late+then-failed w ↦ put_after_failure _ _ _ c.is_late-is_late.ensures.right _ (sym w.failed.ensures ∙ w.if-failed.true)
  ],
)

pub returns : goal.returns
returns g c = (
  refl,
  refl,
  refl,
  put_late _ _ _ c.is_late-is_late.ensures.right _ _ c.put_line.result (sym c.is_late-is_late.ensures.late ∙ c.if-not-is_late.false) (sym c.failed.ensures ∙ c.if-failed.false) c.put_line.ensures,
)
