use Rattle.survey_core.proofs.lemmas.JobLemmas.{jobs_decide}
use Rattle.survey_core.proofs.job.same_jobs_are_equal.Goals as goal

pub returns : goal.returns
returns c = jobs_decide
