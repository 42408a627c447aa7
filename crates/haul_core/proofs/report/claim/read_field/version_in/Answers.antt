use Rattle.std.proofs.Common.{◌≡◌, ◌≤◌, []}
use Rattle.std.proofs.Common.{arith}
use Rattle.haul_core.proofs.FieldLemmas.{not_from_to, one_number, version_bounds}
use Rattle.haul_core.proofs.report.claim.read_field.version_in.Goals as goal

pub returns-else-known : goal.returns-else-known
returns-else-known c =
    λ a version e.
    let bounds = version_bounds a version in
    let least : 1 ≤ a = bounds.0 in
    let most : a ≤ 2 = bounds.1 in
    let same : c.in_ok-number.number ≡ a =
    one_number [] c.args.field.now c.in_ok-number.number a c.in_ok-number.ensures.0 (omega arith) c.in_ok-number.ensures.1 e in
    not_from_to c.is_from_to-known.result c.if-known.false c.is_from_to-known.ensures.1 (omega arith) (omega arith)
