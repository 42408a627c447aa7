-- The behaviour of `census work`.
use Rattle.std.specs.Prelude.{◌≡◌, ℕ, false, List, [], ◌∷◌, flat_map}
use Rattle.survey_core.specs.declared.job.Job.{Job}
use Rattle.ranges.specs.declared.range.Range.{Range}
use Rattle.haul_core.specs.Missing.{numbers_of}
use Rattle.ranges.specs.Ranges.{IsNormalForm}
use Rattle.haul_core.specs.ReportLines.{report_text}
use Rattle.haul_core.specs.Reports.{IsReport, Reported}
use Rattle.requests.specs.declared.plan.Plan.{Plan}
use Rattle.pattern_commands.specs.Answers.{Right, IsRightGiven}
use Rattle.commands.specs.SoupSets.{job_named, IsRightForSet}
use Rattle.pattern_commands.specs.Behaviours.{Behaviour, text_behaviour}

-- a worker's right report on the soup with this number, for a job
pub record IsReportOn (job : Job) (worker number : ℕ) (report : Reported) : Type 0 where
  pub job_is : report.job ≡ job
  pub worker_is : report.worker ≡ worker
  pub number_is : report.number ≡ number
  pub found : IsReport report

-- a worker's reports on the soups with these numbers, one on each, in this order
abbrev pub AreReportsOn : Job → ℕ → List ℕ → List Reported → Type 0
AreReportsOn job worker [] [] = Unit {0}
AreReportsOn job worker [] (r ∷ reports) = ⊥
AreReportsOn job worker (n ∷ numbers) [] = ⊥
AreReportsOn job worker (n ∷ numbers) (r ∷ reports) = IsReportOn job worker n r × AreReportsOn job worker numbers reports

-- a text with a worker's report lines on all soups of a set, ascending by their numbers
pub record TellsReports (job : Job) (worker : ℕ) (ranges : List Range) (text : List ℕ) : Type 0 where
  pub normal : List Range
  pub form : IsNormalForm ranges normal
  pub reports : List Reported
  pub each : AreReportsOn job worker (numbers_of normal) reports
  pub text_is : text ≡ flat_map report_text reports

-- what is right for `work`: the worker's report lines on all soups of the set, or a refusal; the parts of the job are
-- checked before the set
abbrev pub work_right : Plan → ℕ → Right
work_right plan worker = IsRightGiven (job_named plan) (λ job. IsRightForSet plan.set (TellsReports job worker))

-- the behaviour of `work` for a plan and a worker; its text is written line by line
abbrev pub work_behaviour : Plan → ℕ → Behaviour
work_behaviour plan worker = text_behaviour false false (λ bytes. work_right plan worker)
