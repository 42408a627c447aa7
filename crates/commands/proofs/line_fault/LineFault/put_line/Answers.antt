use Rattle.std.proofs.Common.{◌++◌, codes}
use Rattle.plane_core.proofs.lemmas.OutputLemmas.{Writes_then, Writes_stops}
use Rattle.commands.specs.GatheredLines.{line_fault_text}
use Rattle.commands.proofs.line_fault.LineFault.put_line.Goals as goal

pub returns-in_err-put_number : goal.returns-in_err-put_number
returns-in_err-put_number g c =
    Writes_stops (codes ": " ++ (line_fault_text c.args.self ++ codes "\n")) c.from_residual.ensures.0 c.in_err-put_number.ensures

pub returns-in_err-put : goal.returns-in_err-put
returns-in_err-put g c =
    Writes_then c.in_ok-put_number.ensures
    (Writes_stops (line_fault_text c.args.self ++ codes "\n") c.from_residual-in_err-put.ensures.0 c.in_err-put.ensures)

pub returns-in_err-put_text : goal.returns-in_err-put_text
returns-in_err-put_text g c =
    Writes_then c.in_ok-put_number.ensures (Writes_then c.in_ok-put.ensures
    (Writes_stops (codes "\n") c.from_residual-in_err-put_text.ensures.0 c.in_err-put_text.ensures))

pub returns : goal.returns
returns g c =
    Writes_then c.in_ok-put_number.ensures (Writes_then c.in_ok-put.ensures (Writes_then c.in_ok-put_text.ensures c.put-2.ensures))
