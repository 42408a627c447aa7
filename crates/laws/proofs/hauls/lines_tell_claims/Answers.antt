use Rattle.haul_core.proofs.OneClaim.{one_claim}
use Rattle.haul_core.proofs.SpaceLemmas.{no_claim}
use Rattle.laws.proofs.OnePlace.{one_place}
use Rattle.laws.proofs.hauls.lines_tell_claims.Goals as goal

pub returns-clause-one : goal.returns-clause-one
returns-clause-one c = one_claim

pub returns-clause-faulty : goal.returns-clause-faulty
returns-clause-faulty c = no_claim

pub returns-clause-place : goal.returns-clause-place
returns-clause-place c = one_place
