use Rattle.std.proofs.Common.{◌≡◌, None, Some}
use Rattle.commands.proofs.ReportingLemmas.{ok_with, reported_by}
use Rattle.commands.proofs.reporting.report_by_crew.Goals as goal

pub returns-in-Ok : goal.returns-in-Ok
returns-in-Ok g c =
    let taken = c.take_reporting-taken.ensures in
    let complete = rw c.in-Ok.is at taken.complete in
    let all = rw c.in-Ok.is at taken.all in
    reported_by c.failed-has_failed.result c.end_of_crew.result (rw c.in-Ok.is at taken.heard) c.failed-has_failed.ensures
    (ok_with c.end_of_crew.result (λ ended. (ended.0, complete, all)) c.end_of_crew.ensures.whole) c.end_of_crew.ensures.stops

pub returns : goal.returns
returns g c =
    let ended = c.end_of_crew-in-Err in
    reported_by c.failed-has_failed.result ended.result (rw c.in-Err.is at c.take_reporting-taken.ensures.heard) c.failed-has_failed.ensures
    (ok_with ended.result (λ whole. let bad : Some c.in-Err.why ≡ None = whole.1 in cc) ended.ensures.whole) ended.ensures.stops
