use Rattle.std.proofs.Common.{◌++◌, codes}
use Rattle.plane_core.proofs.lemmas.OutputLemmas.{Writes_same, Writes_stops, Writes_then}
use Rattle.pattern_commands.proofs.version.put_line.Goals as goal

pub returns-in_err-put : goal.returns-in_err-put
returns-in_err-put g c = Writes_stops (codes "0.3.0" ++ codes "\n") c.from_residual.ensures.0 c.in_err-put.ensures

pub returns-in_err-put-2 : goal.returns-in_err-put-2
returns-in_err-put-2 g c =
    Writes_then c.in_ok-put.ensures
    (Writes_stops (codes "\n") c.from_residual-in_err-put-2.ensures.0 (Writes_same c.as_bytes.ensures.value c.in_err-put-2.ensures))

pub returns : goal.returns
returns g c = Writes_then c.in_ok-put.ensures (Writes_then (Writes_same c.as_bytes.ensures.value c.in_ok-put-2.ensures) c.put-3.ensures)
