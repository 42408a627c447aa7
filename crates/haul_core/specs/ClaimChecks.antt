-- Checking a claim: what it says is compared with the finding of its soup.
use Rattle.std.specs.Prelude.{◌≡◌, IfErr, IfOk, MatchResult, Result, true, false}
use Rattle.memory.specs.Witness.{out_of_memory}
use Rattle.std.specs.List.{All}
use Rattle.code_core.specs.Apgcodes.{HasCodeShape}
use Rattle.survey_core.specs.Findings.{IsFinding}
use Rattle.survey_core.specs.Soups.{soup}
use Rattle.survey_core.specs.declared.finding.Finding.{Finding}
use Rattle.survey_core.specs.declared.finding.Finding.TheVariants.{Settled, Unsettled}
use Rattle.survey_core.specs.declared.job.Job.{Job}
use Rattle.haul_core.specs.declared.report.claim.check.CheckError.{CheckError}
use Rattle.haul_core.specs.declared.report.claim.check.CheckError.TheVariants.{Disagrees, Memory, OtherJob}
use Rattle.survey_core.specs.Jobs.{same_job}
use Rattle.haul_core.specs.ReportLines.{claim_of, said_of}
use Rattle.haul_core.specs.LawfulClaims.{Claimed}
use Rattle.haul_core.specs.Reports.{IsReport, Reported}

-- the claim says the same as the finding, except that a line of version 1 doesn't say whether the objects stay for good
abbrev pub Agrees : Claimed → Finding → Type 0
Agrees claim finding = said_of claim.version finding ≡ claim.found

-- the finding of the soup that the claim is about
abbrev pub IsFoundFor : Claimed → Finding → Type 0
IsFoundFor claim finding = IsFinding claim.job.rule claim.job.profile (soup claim.job.seed claim.number) finding

-- the report of a correct claim of this job
pub record IsConfirmed (claim : Claimed) (job : Job) (report : Reported) : Type 0 where
  pub same : same_job claim.job job ≡ true
  pub lawful : IsReport report
  pub same_claim : claim_of claim.version report ≡ claim

-- what holds if this error is returned
abbrev pub Fails : Claimed → Job → CheckError → Type 0
Fails claim job OtherJob = same_job claim.job job ≡ false
Fails claim job (Disagrees found) = (same_job claim.job job ≡ true) × (IsFoundFor claim found × ¬ Agrees claim found)
Fails claim job (Memory error) = same_job claim.job job ≡ true

-- The result of checking a claim for this job. A correct claim becomes its report, unless memory runs out. If there is
-- an error, the claim is returned unchanged, with the error.
pub record IsCheckedClaim (claim : Claimed) (job : Job) (result : Result Reported (Claimed × CheckError)) : Type 0 where
  pub report : IfOk result (IsConfirmed claim job)
  pub complete : (report : Reported) → IsConfirmed claim job report
      → MatchResult result (λ made. made ≡ report) (λ refused. refused.1 ≡ Memory out_of_memory)
  pub fails : IfErr result (λ refused. Fails claim job refused.1)
  pub kept : IfErr result (λ refused. refused.0 ≡ claim)

-- each code of a finding has the shape of an apgcode
abbrev pub HaveShape : Finding → Type 0
HaveShape (Settled checkpoint objects for_good) = All (λ object. HasCodeShape object.0) objects
HaveShape Unsettled = Unit {0}
