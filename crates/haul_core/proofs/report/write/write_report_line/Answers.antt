use Rattle.std.proofs.Common.{ap, codes, flat_map}
use Rattle.plane_core.proofs.lemmas.OutputLemmas.{Writes_same, Writes_then, Writes_stops}
use Rattle.haul_core.specs.HaulTexts.{spaced}
use Rattle.haul_core.specs.ReportLines.{found_fields, said_of}
use Rattle.haul_core.proofs.ReportLemmas.{after_head, report_spelled}
use Rattle.haul_core.proofs.report.write.write_report_line.Goals as goal

pub returns-in_err-put_head : goal.returns-in_err-put_head
returns-in_err-put_head g c =
    Writes_same (report_spelled c.args.report.now) (Writes_stops (after_head c.args.report.now) c.from_residual.ensures.0 c.in_err-put_head.ensures)

pub returns-in_err-put_finding : goal.returns-in_err-put_finding
returns-in_err-put_finding g c =
    let finding = ap (λ finding. flat_map spaced (found_fields (said_of 2 finding))) c.finding.ensures.finding in
    Writes_same (report_spelled c.args.report.now) (Writes_then c.in_ok-put_head.ensures
    (Writes_stops (codes "\n") c.from_residual-in_err-put_finding.ensures.0 (Writes_same finding c.in_err-put_finding.ensures)))

pub returns : goal.returns
returns g c =
    let finding = ap (λ finding. flat_map spaced (found_fields (said_of 2 finding))) c.finding.ensures.finding in
    Writes_same (report_spelled c.args.report.now) (Writes_then c.in_ok-put_head.ensures
    (Writes_then (Writes_same finding c.in_ok-put_finding.ensures) c.put.ensures))
