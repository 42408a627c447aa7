use Rattle.std.proofs.Common.{◌++◌, ◌∙◌, codes, decimal}
use Rattle.plane_core.proofs.lemmas.OutputLemmas.{Writes_same, Writes_then, Writes_stops}
use Rattle.pattern_commands.proofs.name.put_object.Goals as goal

pub returns-in_err-put : goal.returns-in_err-put
returns-in_err-put g c =
    Writes_stops (codes " " ++ decimal c.args.object.now.1 ++ codes "\n") c.from_residual.ensures.0
    (Writes_same (c.as_bytes.ensures.value ∙ c.text.ensures.text) c.in_err-put.ensures)

pub returns-in_err-put_number : goal.returns-in_err-put_number
returns-in_err-put_number g c =
    Writes_then (Writes_same (c.as_bytes.ensures.value ∙ c.text.ensures.text) c.in_ok-put.ensures)
    (Writes_stops (codes "\n") c.from_residual-in_err-put_number.ensures.0 c.in_err-put_number.ensures)

pub returns : goal.returns
returns g c =
    Writes_then (Writes_same (c.as_bytes.ensures.value ∙ c.text.ensures.text) c.in_ok-put.ensures)
    (Writes_then c.in_ok-put_number.ensures c.put-2.ensures)
