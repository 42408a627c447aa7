-- A claim that agrees with the finding of its soup becomes a report, the only one that confirms the claim.
use Rattle.std.proofs.Common.{◌≡◌, ◌∙◌, ◌+◌, ◌<◌, ◌≤◌, ◌^◌, ◌∷◌, [], ℕ, List, true, ap, arith, inr, sum, sym, subst, refl}
use Rattle.std.proofs.lemmas.List.Elements.{All-from_recursion, recursion_from_All}
use Rattle.std.proofs.lemmas.List.Sums.{sum_by-cons}
use Rattle.std.specs.List.{AllByRecursion}
use Rattle.std.specs.Map.{values_of}
use Rattle.code_core.specs.Apgcodes.{HasCodeShape}
use Rattle.plane_core.specs.plane.Rules.{IsRule}
use Rattle.survey_core.specs.Profiles.{IsProfile}
use Rattle.survey_core.specs.Seeds.{IsSeed}
use Rattle.survey_core.specs.declared.finding.Finding.TheVariants.{Settled, Unsettled}
use Rattle.survey_core.specs.FindingLaws.{FindingsAreDetermined}
use Rattle.survey_core.specs.Findings.{IsFinding, objects_in}
use Rattle.survey_core.specs.Soups.{soup}
use Rattle.survey_core.specs.declared.finding.Finding.{Finding}
use Rattle.survey_core.specs.declared.job.Job.{Job}
use Rattle.haul_core.specs.ClaimChecks.{Agrees, HaveShape, IsConfirmed, IsFoundFor}
use Rattle.survey_core.specs.Jobs.{same_job}
use Rattle.haul_core.specs.ReportLines.{claim_of, said_of}
use Rattle.haul_core.specs.LawfulClaims.{Claimed, IsClaim, IsCount, IsFound}
use Rattle.haul_core.specs.Reports.{IsReport, Reported}
use Rattle.survey_core.proofs.lemmas.JobLemmas.{jobs_decide}

-- a lawful report with the wanted job, which is also the claim's job, and with the claim's worker and number
pub record IsMade (claim : Claimed) (wanted : Job) (report : Reported) : Type 0 where
  pub same : same_job claim.job wanted ≡ true
  pub job : report.job ≡ wanted
  pub worker : report.worker ≡ claim.worker
  pub number : report.number ≡ claim.number
  pub lawful : IsReport report

-- a report that was made for a claim has the claim's job
own_job : (claim : Claimed) (wanted : Job) (report : Reported) → IsMade claim wanted report → report.job ≡ claim.job
own_job claim wanted report m = m.job ∙ sym ((jobs_decide claim.job wanted).0 m.same)

pub confirmed : (claim : Claimed) (wanted : Job) (report : Reported) → IsMade claim wanted report → Agrees claim report.finding
    → IsConfirmed claim wanted report
confirmed claim wanted report m a = record {
  same = m.same;
  lawful = m.lawful;
  same_claim = λ i. record { version = claim.version; job = own_job claim wanted report m i; worker = m.worker i; number = m.number i; found = a i };
}

pub found_for : (claim : Claimed) (wanted : Job) (report : Reported) → IsMade claim wanted report → IsFoundFor claim report.finding
found_for claim wanted report m =
    subst (λ (job : Job). IsFinding job.rule job.profile (soup job.seed claim.number) report.finding) (own_job claim wanted report m)
    (subst (λ n. IsFinding report.job.rule report.job.profile (soup report.job.seed n) report.finding) m.number m.lawful.finding)

-- if a report confirms the claim, it is the report that was made
pub one_report : FindingsAreDetermined → (claim : Claimed) (wanted : Job) (made report : Reported) → IsMade claim wanted made → IsConfirmed claim wanted report
    → made ≡ report
one_report determined claim wanted made report m k =
    let job : report.job ≡ made.job = ap (λ (c : Claimed). c.job) k.same_claim ∙ sym (own_job claim wanted made m) in
    let number : report.number ≡ made.number = ap (λ (c : Claimed). c.number) k.same_claim ∙ sym m.number in
    let worker : report.worker ≡ made.worker = ap (λ (c : Claimed). c.worker) k.same_claim ∙ sym m.worker in
    let there : IsFinding made.job.rule made.job.profile (soup made.job.seed made.number) report.finding =
    subst (λ (job : Job). IsFinding job.rule job.profile (soup job.seed made.number) report.finding) job
    (subst (λ n. IsFinding report.job.rule report.job.profile (soup report.job.seed n) report.finding) number k.lawful.finding) in
    let finding = determined made.job.rule made.job.profile (soup made.job.seed made.number) made.finding report.finding m.lawful.finding there in
    λ i. record { job = sym job i; worker = sym worker i; number = sym number i; finding = finding i }

-- if some report confirms the claim, the claim agrees with the finding of the report that was made
pub agrees_if_confirmed : FindingsAreDetermined → (claim : Claimed) (wanted : Job) (made report : Reported) → IsMade claim wanted made
    → IsConfirmed claim wanted report → Agrees claim made.finding
agrees_if_confirmed determined claim wanted made report m k =
    ap (λ (r : Reported). said_of claim.version r.finding) (one_report determined claim wanted made report m k) ∙ ap (λ (c : Claimed). c.found) k.same_claim

-- ---- the claim of a report

counts_of : (objects : List (List ℕ × ℕ)) → AllByRecursion (λ object. HasCodeShape object.0) objects → AllByRecursion (λ object. 1 ≤ object.1) objects
    → sum (values_of objects) < 2 ^ 64 → AllByRecursion IsCount objects
counts_of [] shape some few = tt
counts_of (o ∷ objects) shape some few =
    let parts : sum (values_of (o ∷ objects)) ≡ o.1 + sum (values_of objects) = sum_by-cons (λ (n : ℕ). n) o.1 (values_of objects) in
    (record { code = shape.0; some = some.0; fits = omega arith }, counts_of objects shape.1 some.1 (omega arith))

found_lawful : (report : Reported) → IsReport report → IsProfile report.job.profile → (finding : Finding) → finding ≡ report.finding → HaveShape finding
    → IsFinding report.job.rule report.job.profile (soup report.job.seed report.number) finding → objects_in finding < 2 ^ 64 → IsFound 2 (said_of 2 finding)
found_lawful report h profile Unsettled e shape found few = tt
found_lawful report h profile (Settled checkpoint objects for_good) e shape found few =
    let within = found.0.within in
    let limit = profile.limit in
    let lawful = found.2.counted.lawful in
    record {
      checkpoint = omega arith;
      mark = refl;
      counts = All-from_recursion IsCount objects (counts_of objects (recursion_from_All (λ object. HasCodeShape object.0) objects shape)
          (recursion_from_All (λ object. 1 ≤ object.1) objects lawful.some) few);
      in_order = lawful.in_order;
    }

pub report_is_claim : (report : Reported) → IsReport report → IsRule report.job.rule → IsProfile report.job.profile → IsSeed report.job.seed
    → HaveShape report.finding → IsClaim (claim_of 2 report)
report_is_claim report h rule profile seed shape = record {
  version = inr refl;
  rule = rule;
  profile = profile;
  seed = seed;
  worker = h.worker;
  number = h.number;
  found = found_lawful report h profile report.finding refl shape h.finding h.few;
}

pub report_is_confirmed : (report : Reported) → IsReport report → IsConfirmed (claim_of 2 report) report.job report
report_is_confirmed report h = record { same = (jobs_decide report.job report.job).1 refl; lawful = h; same_claim = refl }
