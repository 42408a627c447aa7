use Rattle.std.proofs.Common.{subst}
use Rattle.plane_core.specs.plane.Rules.{IsRule}
use Rattle.survey_core.specs.Profiles.{IsProfile}
use Rattle.survey_core.specs.Seeds.{IsSeed}
use Rattle.survey_core.specs.declared.job.Job.{Job}
use Rattle.haul_core.specs.ClaimChecks.{HaveShape}
use Rattle.haul_core.proofs.CheckLemmas.{report_is_claim, report_is_confirmed}
use Rattle.haul_core.proofs.report.claim.check.reports_are_claims.Goals as goal

pub returns-clause-claim : goal.returns-clause-claim
returns-clause-claim c =
    let job = c.job-job.ensures in
    report_is_claim c.args.report.now c.finding.ensures.report (subst (λ (j : Job). IsRule j.rule) job c.births.ensures.rule)
    (subst (λ (j : Job). IsProfile j.profile) job c.limit.ensures.profile) (subst (λ (j : Job). IsSeed j.seed) job c.bytes.ensures.seed)
    (subst HaveShape c.finding.ensures.finding c.codes_have_shape.ensures)

pub returns-clause-confirmed : goal.returns-clause-confirmed
returns-clause-confirmed c = report_is_confirmed c.args.report.now c.finding.ensures.report
