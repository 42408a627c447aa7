-- The behaviour of `census take --report-from`.
use Rattle.std.specs.Prelude.{◌≡◌, ◌≤◌, ℕ, All, List, Ok, Err, Option, false, map, true}
use Rattle.std.specs.Io.KnownBytes.{Appends}
use Rattle.survey_core.specs.declared.job.Job.{Job}
use Rattle.ranges.specs.declared.range.Range.{Range}
use Rattle.ranges.specs.Ranges.{is_in}
use Rattle.haul_core.specs.Missing.{AreAll}
use Rattle.haul_core.specs.Reports.{IsReport, Reported}
use Rattle.crew.specs.Takes.{times_reported}
use Rattle.requests.specs.declared.plan.Plan.{Plan}
use Rattle.pattern_commands.specs.Behaviours.{Behaviour, Makes}
use Rattle.pattern_commands.specs.Streams.{Stream, HasPrefix}
use Rattle.commands.specs.LateReports.{late_lines}
use Rattle.commands.specs.SoupSets.{AreRangesOf, job_named}
use Rattle.commands.specs.Take.{take_right}

-- right reports by these workers on a plan's soups, at most one on each soup
pub record AreReportsOf (plan : Plan) (workers : ℕ) (reports : List Reported) : Type 0 where
  pub job : Job
  pub job_is : job_named plan ≡ Ok job
  pub ranges : List Range
  pub named : AreRangesOf plan.set ranges
  pub right : All IsReport reports
  pub of_job : All (λ r. r.job ≡ job) reports
  pub by_workers : All (λ r. (1 ≤ r.worker) × (r.worker ≤ workers)) reports
  pub within : All (λ r. is_in ranges r.number ≡ true) reports
  pub once : (n : ℕ) → times_reported n reports ≤ 1

-- the text consists of the report lines of all late soups of a plan, one line for each late soup, in any order
pub record TellsAllLate (plan : Plan) (workers from : ℕ) (text : List ℕ) : Type 0 where
  pub reports : List Reported
  pub are : AreReportsOf plan workers reports
  pub all : AreAll are.ranges (map (λ r. r.number) reports)
  pub text_is : text ≡ late_lines from reports

-- report lines of late soups of a plan, at most one for each soup, were written completely to standard error
pub record TellsLate (plan : Plan) (workers from : ℕ) (before after : Option (List ℕ)) : Type 0 where
  pub reports : List Reported
  pub are : AreReportsOf plan workers reports
  pub written : Appends before after (late_lines from reports)

-- report lines of late soups of a plan, at most one for each soup, were written, but the last line may be incomplete
pub record BreaksOffLate (plan : Plan) (workers from : ℕ) (errors : Stream) : Type 0 where
  pub reports : List Reported
  pub are : AreReportsOf plan workers reports
  pub written : HasPrefix errors (late_lines from reports)

-- what is right for `take --report-from`: the haul text of the complete haul and, as diagnostics, the report lines of
-- all late soups; or else a complaint that is right for `take`
abbrev pub reporting_right : Plan → (workers from : ℕ) → Makes
reporting_right plan workers from (Ok made) =
    take_right plan (Ok made.text) × TellsAllLate plan workers from made.diagnostics × (made.missing ≡ 0)
reporting_right plan workers from (Err complaint) = take_right plan (Err complaint)

-- the behaviour of `take` with report lines of late soups, which are unsettled or have a checkpoint of `from` or later
abbrev pub reporting_behaviour : Plan → (workers from : ℕ) → Behaviour
reporting_behaviour plan workers from = record {
  right = λ bytes. reporting_right plan workers from;
  reads = false;
  refuses = false;
  whole = true;
  begins = λ reader before after. TellsLate plan workers from before after;
  breaks_off = BreaksOffLate plan workers from;
}
