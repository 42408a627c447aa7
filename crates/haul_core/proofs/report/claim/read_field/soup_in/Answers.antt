use Rattle.std.proofs.Common.{◌≡◌, arith, codes}
use Rattle.haul_core.proofs.FieldLemmas.{one_number}
use Rattle.haul_core.proofs.report.claim.read_field.soup_in.Goals as goal

pub returns-else-number-lt-NUMBER_BOUND : goal.returns-else-number-lt-NUMBER_BOUND
returns-else-number-lt-NUMBER_BOUND c =
    λ a most e.
    let same : c.in_ok-number.number ≡ a =
    one_number (codes "soup=") c.args.field.now c.in_ok-number.number a c.in_ok-number.ensures.0 (omega arith) c.in_ok-number.ensures.1 e in
    absurd (let over = c.if-number-lt-NUMBER_BOUND.false in omega arith)
