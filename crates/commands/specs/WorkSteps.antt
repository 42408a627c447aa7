-- How reports are written, one after another.
use Rattle.std.specs.Prelude.{◌≡◌, ◌⊎◌, ◌++◌, ℕ, List, [], Ok, Err, true, false, flat_map}
use Rattle.survey_core.specs.declared.job.Job.{Job}
use Rattle.ranges.specs.declared.range.Range.{Range}
use Rattle.ranges.specs.Ranges.{IsNormalForm}
use Rattle.haul_core.specs.Missing.{numbers_of}
use Rattle.haul_core.specs.ReportLines.{report_text}
use Rattle.haul_core.specs.Reports.{Reported}
use Rattle.pattern_commands.specs.declared.ending.complaint.Complaint.TheVariants.{Refused, Memory, ReadFailed, TooLong, WriteFailed}
use Rattle.pattern_commands.specs.Streams.{Stream, Has, HasPrefix}
use Rattle.pattern_commands.specs.TextSteps.{TextOutcome}
use Rattle.requests.specs.declared.plan.Plan.{Plan}
use Rattle.commands.specs.SoupSets.{AreRangesOf, job_named}
use Rattle.commands.specs.Work.{AreReportsOn}

-- which reports are wanted: those of this worker, for this job, on the soups with these numbers
pub record WantedReports : Type 0 where
  pub job : Job
  pub worker : ℕ
  pub numbers : List ℕ

-- the wanted reports with this job and worker, on the soups with these numbers
abbrev pub reports_on : Job → ℕ → List ℕ → WantedReports
reports_on job worker numbers = record { job = job; worker = worker; numbers = numbers }

-- reports on a prefix of the wanted numbers were made, and `written` holds for the text of their lines
pub record IsBegun (wanted : WantedReports) (written : List ℕ → Type 0) : Type 0 where
  pub done : List ℕ
  pub more : List ℕ
  pub parts : wanted.numbers ≡ done ++ more
  pub reports : List Reported
  pub each : AreReportsOn wanted.job wanted.worker done reports
  pub is_written : written (flat_map report_text reports)

-- a worker's reports on a prefix of a plan's soups were made, and their lines were written completely
pub record HasWholeLines (plan : Plan) (worker : ℕ) (output : Stream) : Type 0 where
  pub job : Job
  pub job_is : job_named plan ≡ Ok job
  pub ranges : List Range
  pub named : AreRangesOf plan.set ranges
  pub normal : List Range
  pub form : IsNormalForm ranges normal
  pub begun : IsBegun (reports_on job worker (numbers_of normal)) (Has output)

-- either nothing or only whole lines were written
abbrev pub EndsAtLine : Plan → ℕ → Stream → Type 0
EndsAtLine plan worker output = Has output [] ⊎ HasWholeLines plan worker output

-- all wanted reports were made, and their lines written
pub record IsPut (wanted : WantedReports) (output : Stream) : Type 0 where
  pub reports : List Reported
  pub each : AreReportsOn wanted.job wanted.worker wanted.numbers reports
  pub is_written : Has output (flat_map report_text reports)
  pub fine : output.failed ≡ false

-- What became of the wanted reports. If all went well, all their lines were written. If memory ran out at a report, the
-- lines of the reports before it were written. If a write failed, a prefix of the lines made until then was written.
abbrev pub Puts : WantedReports → TextOutcome → Stream → Type 0
Puts wanted (Ok _) output = IsPut wanted output
Puts wanted (Err (Memory error)) output = IsBegun wanted (Has output)
Puts wanted (Err (WriteFailed error)) output = IsBegun wanted (HasPrefix output) × (output.failed ≡ true)
Puts wanted (Err (ReadFailed error)) output = ⊥
Puts wanted (Err TooLong) output = ⊥
Puts wanted (Err (Refused refusal)) output = ⊥
