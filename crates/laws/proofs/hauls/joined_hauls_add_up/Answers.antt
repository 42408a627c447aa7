use Rattle.survey_core.proofs.lemmas.DeterminedLemmas.{findings_determined}
use Rattle.laws.proofs.JoinedSums.{add_up}
use Rattle.laws.proofs.hauls.joined_hauls_add_up.Goals as goal

pub returns : goal.returns
returns c = add_up findings_determined
