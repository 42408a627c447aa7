-- Reports: what a worker says about a soup.
use Rattle.std.specs.Prelude.{◌≡◌, ◌<◌, ◌≤◌, ◌^◌, ℕ}
use Rattle.survey_core.specs.Findings.{IsFinding, objects_in}
use Rattle.survey_core.specs.Soups.{soup}
use Rattle.survey_core.specs.declared.finding.Finding.{Finding}
use Rattle.survey_core.specs.declared.job.Job.{Job}
use Rattle.ranges.specs.Ranges.{number_bound}

-- a report: the job, the worker, the number of the soup, and the finding
pub record Reported : Type 0 where
  pub job : Job
  pub worker : ℕ
  pub number : ℕ
  pub finding : Finding

-- workers are numbered from 1 to 16, which is this project's choice
pub record IsWorker (worker : ℕ) : Type 0 where
  pub least : 1 ≤ worker
  pub most : worker ≤ 16

-- the report is lawful: its worker and number are in range, and its finding is the soup's, with fewer than 2^64 objects
pub record IsReport (report : Reported) : Type 0 where
  pub worker : IsWorker report.worker
  pub number : report.number < number_bound
  pub finding : IsFinding report.job.rule report.job.profile (soup report.job.seed report.number) report.finding
  pub few : objects_in report.finding < 2 ^ 64

-- a lawful report for this job, by this worker, on the soup with this number
pub record IsReportOf (job : Job) (worker number : ℕ) (report : Reported) : Type 0 where
  pub job_is : report.job ≡ job
  pub worker_is : report.worker ≡ worker
  pub number_is : report.number ≡ number
  pub lawful : IsReport report
