use Rattle.survey_core.proofs.lemmas.DeterminedLemmas.{findings_determined}
use Rattle.survey_core.proofs.finding.findings_are_determined.Goals as goal

pub returns : goal.returns
returns c = findings_determined
