use Rattle.std.proofs.Common.{◌∙◌}
use Rattle.survey_core.proofs.lemmas.JobLemmas.{same_job-fields}
use Rattle.survey_core.proofs.job.is_same_job.Goals as goal

pub returns : goal.returns
returns c = c.eq.ensures ∙ same_job-fields c.args.job.now c.args.other.now
