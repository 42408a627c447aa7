use Rattle.std.proofs.Common.{◌≡◌, arith, codes}
use Rattle.haul_core.proofs.FieldLemmas.{one_number}
use Rattle.haul_core.proofs.report.claim.read_field.checkpoint_in.Goals as goal

pub returns-else-number-le-MOST_GENERATIONS : goal.returns-else-number-le-MOST_GENERATIONS
returns-else-number-le-MOST_GENERATIONS c =
    λ a most e.
    let same : c.in_ok-number.number ≡ a =
    one_number (codes "at=") c.args.field.now c.in_ok-number.number a c.in_ok-number.ensures.0 (omega arith) c.in_ok-number.ensures.1 e in
    absurd (let over = c.if-number-le-MOST_GENERATIONS.false in omega arith)
