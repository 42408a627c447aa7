use Rattle.std.proofs.Common.{◌∙◌}
use Rattle.plane_core.proofs.lemmas.OutputLemmas.{Writes_same, Writes_then, Writes_stops}
use Rattle.code_core.proofs.decimal.put_number.Goals as goal

pub returns-in_err-put : goal.returns-in_err-put
returns-in_err-put g c = Writes_stops (g.N.Integer.text c.args.number) c.from_residual.ensures.0 c.in_err-put.ensures

pub returns : goal.returns
returns g c = Writes_then c.in_ok-put.ensures (Writes_same (c.as_bytes.ensures.value ∙ c.format.ensures.text) c.put-2.ensures)
