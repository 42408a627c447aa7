use Rattle.std.proofs.Common.{append-nil}
use Rattle.plane_core.proofs.lemmas.OutputLemmas.{Writes_same, Writes_then}
use Rattle.commands.proofs.work.put_line.Goals as goal

pub returns : goal.returns
returns g c = Writes_same (append-nil _) (Writes_then c.in_ok-write_report_line.ensures c.flush.ensures)
