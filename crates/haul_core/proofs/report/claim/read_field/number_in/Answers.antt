use Rattle.std.proofs.Common.{◌∙◌, sym}
use Rattle.haul_core.proofs.FieldLemmas.{longer_decimal}
use Rattle.haul_core.proofs.report.claim.read_field.number_in.Goals as goal

pub returns-else-is_empty : goal.returns-else-is_empty
returns-else-is_empty c =
    λ a fits e. longer_decimal c.args.text.now c.in_ok-number.number a c.in_ok-number.remainder.now c.in_ok-number.ensures.some
    (sym c.is_empty.ensures ∙ c.if-is_empty.false) fits e
