use Rattle.haul_core.proofs.SpaceLemmas.{no_claim}
use Rattle.haul_core.proofs.report.claim.read_line.claim_in.Goals as goal

pub unreachable-requires : goal.unreachable-requires
unreachable-requires c = no_claim c.args.line.now _ c.in-Err.ensures.err c.requires
