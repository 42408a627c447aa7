use Rattle.survey_core.proofs.lemmas.evolution.SpaceshipLemmas.{spaceships_run_alone, spaceships_stay_ahead}
use Rattle.survey_core.proofs.evolution.escaped_spaceships.spaceships_are_never_caught.Goals as goal

pub returns-clause-ahead : goal.returns-clause-ahead
returns-clause-ahead c = spaceships_stay_ahead

pub returns-clause-alone : goal.returns-clause-alone
returns-clause-alone c = spaceships_run_alone
