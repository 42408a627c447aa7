use Rattle.std.proofs.Common.{◌++◌, codes, decimal}
use Rattle.plane_core.proofs.lemmas.OutputLemmas.{Writes_then, Writes_stops}
use Rattle.commands.proofs.line_fault.put_double.Goals as goal

pub returns-in_err-put_number : goal.returns-in_err-put_number
returns-in_err-put_number g c = Writes_stops (codes " by " ++ decimal c.args.worker) c.from_residual.ensures.0 c.in_err-put_number.ensures

pub returns : goal.returns
returns g c = Writes_then c.in_ok-put_number.ensures c.put_number-2.ensures
