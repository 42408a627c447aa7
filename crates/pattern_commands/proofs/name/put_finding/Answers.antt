use Rattle.std.proofs.Common.{flat_map}
use Rattle.plane_core.proofs.lemmas.OutputLemmas.{Writes_then, Writes_stops}
use Rattle.pattern_commands.specs.Name.{object_line}
use Rattle.pattern_commands.proofs.name.put_finding.Goals as goal

pub returns-in_err-put_settled-in-Settled : goal.returns-in_err-put_settled-in-Settled
returns-in_err-put_settled-in-Settled g c =
    rw c.in-Settled.is (Writes_stops (flat_map object_line c.in-Settled.objects) c.from_residual.ensures.0 c.in_err-put_settled-in-Settled.ensures)

pub returns-in_ok-put_settled-in-Settled : goal.returns-in_ok-put_settled-in-Settled
returns-in_ok-put_settled-in-Settled g c =
    rw (c.in-Settled.is, ← c.as_slice.ensures.objects) (Writes_then c.in_ok-put_settled-in-Settled.ensures c.put_objects.ensures)
