use Rattle.std.proofs.Common.{arith}
use Rattle.survey_core.proofs.lemmas.PlaneLemmas.{within_more}
use Rattle.survey_tests.proofs.finding.drawn.Goals as goal

pub returns : goal.returns
returns c = within_more 999 1000 c.in_ok-pattern.pattern (omega arith) c.in_ok-pattern.ensures.small
