use Rattle.std.proofs.Common.{append-nil}
use Rattle.plane_core.proofs.lemmas.OutputLemmas.{Writes_fails, Writes_same, Writes_then}
use Rattle.commands.proofs.finish.put_census.Goals as goal

pub returns-in_err-write_haul : goal.returns-in_err-write_haul
returns-in_err-write_haul g c = Writes_fails c.from_residual.ensures.0 c.in_err-write_haul.ensures

pub flush-requires : goal.flush-requires
flush-requires g c = c.in_ok-write_haul.ensures.remembers

pub returns : goal.returns
returns g c = Writes_same (append-nil _) (Writes_then c.in_ok-write_haul.ensures c.flush.ensures)
