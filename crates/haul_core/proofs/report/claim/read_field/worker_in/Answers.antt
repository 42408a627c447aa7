use Rattle.std.proofs.Common.{◌≡◌, arith, codes}
use Rattle.haul_core.proofs.FieldLemmas.{not_from_to, one_number}
use Rattle.haul_core.proofs.report.claim.read_field.worker_in.Goals as goal

pub returns-else-known : goal.returns-else-known
returns-else-known c =
    λ a worker e.
    let least = worker.least in
    let most = worker.most in
    let same : c.in_ok-number.number ≡ a =
    one_number (codes "worker=") c.args.field.now c.in_ok-number.number a c.in_ok-number.ensures.0 (omega arith) c.in_ok-number.ensures.1 e in
    not_from_to c.is_from_to-known.result c.if-known.false c.is_from_to-known.ensures.1 (omega arith) (omega arith)
