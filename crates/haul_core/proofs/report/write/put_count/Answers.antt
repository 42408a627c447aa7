use Rattle.std.proofs.Common.{◌++◌, ◌∙◌, codes, decimal}
use Rattle.plane_core.proofs.lemmas.OutputLemmas.{Writes_same, Writes_then, Writes_stops}
use Rattle.haul_core.specs.ReportLines.{count_field}
use Rattle.haul_core.proofs.report.write.put_count.Goals as goal

pub returns-in_err-put : goal.returns-in_err-put
returns-in_err-put g c = Writes_stops (count_field c.args.object.now) c.from_residual.ensures.0 c.in_err-put.ensures

pub returns-in_err-put-2 : goal.returns-in_err-put-2
returns-in_err-put-2 g c =
    Writes_then c.in_ok-put.ensures (Writes_stops (codes "*" ++ decimal c.args.object.now.1) c.from_residual-in_err-put-2.ensures.0
    (Writes_same (c.as_bytes.ensures.value ∙ c.text.ensures.text) c.in_err-put-2.ensures))

pub returns : goal.returns
returns g c =
    Writes_then c.in_ok-put.ensures (Writes_then (Writes_same (c.as_bytes.ensures.value ∙ c.text.ensures.text) c.in_ok-put-2.ensures) c.put_number.ensures)
