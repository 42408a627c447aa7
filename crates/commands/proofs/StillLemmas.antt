-- Complaints that aren't refusals.
use Rattle.std.proofs.Common.{◌≡◌, ◌≢◌, ℕ, List, Result, Ok, Err}
use Rattle.std.specs.Prelude.{IfErr}
use Rattle.pattern_commands.specs.declared.ending.complaint.Complaint.{Complaint}
use Rattle.pattern_commands.specs.declared.ending.status.Status.TheVariants.{Refused}
use Rattle.pattern_commands.specs.declared.ending.complaint.Complaint.TheVariants as complaint
use Rattle.survey_core.specs.declared.job.Job.{Job}
use Rattle.pattern_commands.specs.Complaints.{status_of}
use Rattle.pattern_commands.specs.Streams.{Stream}
use Rattle.pattern_commands.specs.TextSteps.{TextOutcome}
use Rattle.commands.specs.WorkSteps.{Puts, reports_on}

-- if a call never refuses, anything follows from its refusal
pub never_refused : {A : Type 0} (P : Type 0) (r : Result A Complaint) → IfErr r (λ complaint. status_of complaint ≢ Refused)
    → IfErr r (λ complaint. status_of complaint ≡ Refused → P)
never_refused P (Ok a) accepted = tt
never_refused P (Err e) accepted = λ is. absurd (accepted is)

-- writing reports never ends with a refusal
pub reports_accepted : (P : Type 0) (job : Job) (worker : ℕ) (numbers : List ℕ) (r : TextOutcome) (output : Stream)
    → Puts (reports_on job worker numbers) r output
    → IfErr r (λ complaint. status_of complaint ≡ Refused → P)
reports_accepted P job worker numbers r output puts = never_refused P r (go r puts)
  where
    go : (r : TextOutcome) → Puts (reports_on job worker numbers) r output
        → IfErr r (λ complaint. status_of complaint ≢ Refused)
    go (Ok a) is = tt
    go (Err (complaint.Memory error)) is = λ is_refused. cc
    go (Err (complaint.WriteFailed error)) is = λ is_refused. cc
    go (Err (complaint.ReadFailed error)) is = absurd is
    go (Err complaint.TooLong) is = absurd is
    go (Err (complaint.Refused refusal)) is = absurd is
