use Rattle.survey_core.proofs.lemmas.DeterminedLemmas.{findings_determined}
use Rattle.laws.proofs.CensusLemmas.{complete_hauls, same_soups}
use Rattle.laws.proofs.hauls.complete_hauls_print_the_same.Goals as goal

pub returns-clause-same : goal.returns-clause-same
returns-clause-same c = same_soups findings_determined

pub returns-clause-complete : goal.returns-clause-complete
returns-clause-complete c = complete_hauls findings_determined
