use Rattle.haul_core.proofs.SpaceLemmas.{no_claim}
use Rattle.haul_core.proofs.report.claim.read_line.fault_in.Goals as goal

pub returns-in-Err-clause-refused : goal.returns-in-Err-clause-refused
returns-in-Err-clause-refused c = no_claim c.args.line.now _ c.in-Err.ensures.err
