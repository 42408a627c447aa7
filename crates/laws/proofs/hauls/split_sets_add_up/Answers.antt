use Rattle.survey_core.proofs.lemmas.DeterminedLemmas.{findings_determined}
use Rattle.laws.proofs.JoinedSums.{split_sets}
use Rattle.laws.proofs.hauls.split_sets_add_up.Goals as goal

pub returns : goal.returns
returns c = split_sets findings_determined
