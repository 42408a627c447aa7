use Rattle.survey_core.proofs.lemmas.rest.AloneLemmas.{groups_run_alone, parts_run_alone}
use Rattle.survey_core.proofs.rest.far_parts_run_alone.Goals as goal

pub returns-clause-parts : goal.returns-clause-parts
returns-clause-parts c = parts_run_alone

pub returns-clause-groups : goal.returns-clause-groups
returns-clause-groups c = groups_run_alone
