use Rattle.std.proofs.Common.{decimal}
use Rattle.haul_core.specs.FieldSteps.{IsNumber}
use Rattle.haul_core.proofs.FieldLemmas.{tells_after}
use Rattle.haul_core.proofs.report.claim.read_field.number_after.Goals as goal

pub returns : goal.returns
returns c =
    tells_after IsNumber decimal c.args.name.now c.args.field.now c.in_ok-after.field-0.now c.number_in.result c.in_ok-after.ensures c.number_in.ensures
