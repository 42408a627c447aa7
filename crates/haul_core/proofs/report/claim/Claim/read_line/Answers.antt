use Rattle.std.proofs.Common.{◌∙◌, sym}
use Rattle.haul_core.proofs.OneClaim.{one_claim}
use Rattle.haul_core.proofs.report.claim.Claim.read_line.Goals as goal

pub returns-clause-complete : goal.returns-clause-complete
returns-clause-complete c = λ claim lawful e. one_claim c.in_ok-claim.claim claim c.in_ok-claim.ensures.lawful lawful (c.in_ok-claim.ensures.line ∙ sym e)
