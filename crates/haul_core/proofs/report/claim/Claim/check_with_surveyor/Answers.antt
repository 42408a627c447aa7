use Rattle.std.proofs.Common.{◌≡◌, ◌∙◌, ap, subst, sym, true}
use Rattle.haul_core.specs.ClaimChecks.{Agrees, IsFoundFor}
use Rattle.survey_core.specs.Jobs.{same_job}
use Rattle.haul_core.specs.LawfulClaims.{Claimed}
use Rattle.haul_core.proofs.CheckLemmas.{IsMade, agrees_if_confirmed, confirmed, found_for, one_report}
use Rattle.haul_core.proofs.report.claim.Claim.check_with_surveyor.Goals as goal
use Rattle.haul_core.proofs.report.claim.Claim.check_with_surveyor.Goals.{In-Ok}

-- the report has the claim's job, worker and number
is_made : (c : In-Ok) → IsMade c.args.self c.args.job.now c.in-Ok.report
is_made c = record {
  same = ap (λ (k : Claimed). same_job k.job c.args.job.now) (sym c.self.view_is) ∙ sym c.is_same_job.ensures ∙ c.if-not-is_same_job.false;
  job = c.in-Ok.ensures.report.job_is;
  worker = c.in-Ok.ensures.report.worker_is ∙ ap (λ (k : Claimed). k.worker) c.self.view_is;
  number = c.in-Ok.ensures.report.number_is ∙ ap (λ (k : Claimed). k.number) c.self.view_is;
  lawful = c.in-Ok.ensures.report.lawful;
}

pub returns-then-agrees : goal.returns-then-agrees
returns-then-agrees c =
    let made = is_made (goal.at.returns-then-agrees c).In-Ok in
    record {
      report = confirmed c.args.self c.args.job.now c.in-Ok.report made
          (subst (Agrees c.args.self) c.finding.ensures.finding (c.agrees-agrees.ensures.0 c.if-agrees.true));
      complete = λ report k. one_report c.findings_are_determined.ensures c.args.self c.args.job.now c.in-Ok.report report made k;
      fails = tt;
      kept = tt;
    }

pub returns-else-agrees : goal.returns-else-agrees
returns-else-agrees c =
    let made = is_made (goal.at.returns-else-agrees c).In-Ok in
    record {
      report = tt;
      complete = λ report k.
          let a = agrees_if_confirmed c.findings_are_determined.ensures c.args.self c.args.job.now c.in-Ok.report report made k in
          let yes : c.agrees-agrees.result ≡ true = c.agrees-agrees.ensures.1 (subst (Agrees c.args.self) (sym c.finding.ensures.finding) a) in
          absurd (let no = c.if-agrees.false in cc);
      fails = (
        made.same,
        (
          subst (IsFoundFor c.args.self) (sym c.into_finding-found.ensures) (found_for c.args.self c.args.job.now c.in-Ok.report made),
          λ a.
              let b = subst (Agrees c.args.self) c.into_finding-found.ensures a in
              let yes : c.agrees-agrees.result ≡ true = c.agrees-agrees.ensures.1 (subst (Agrees c.args.self) (sym c.finding.ensures.finding) b) in
              absurd (let no = c.if-agrees.false in cc),
        ),
      );
      kept = search;
    }
