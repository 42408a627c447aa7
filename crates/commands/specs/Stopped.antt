-- The behaviour of `take` if a gate may stop its workers before the haul is complete.
use Rattle.std.specs.Prelude.{◌≡◌, ◌≤◌, ℕ, zero, suc, true, false, All, List, [], Ok, Err, length, nat_eq}
use Rattle.std.specs.List.{IsDistinct}
use Rattle.survey_core.specs.declared.job.Job.{Job}
use Rattle.haul_core.specs.declared.book.census.Census.{Census}
use Rattle.ranges.specs.declared.range.Range.{Range}
use Rattle.haul_core.specs.Censuses.{IsCensus}
use Rattle.haul_core.specs.HaulTexts.{haul_text}
use Rattle.haul_core.specs.Keeping.{numbers_in}
use Rattle.haul_core.specs.Missing.{IsComplete, missing_of}
use Rattle.ranges.specs.Ranges.{IsNormalForm, is_in}
use Rattle.requests.specs.declared.plan.Plan.{Plan}
use Rattle.pattern_commands.specs.Answers.{Right, IsRightGiven}
use Rattle.commands.specs.SoupSets.{job_named, IsRightForSet}
use Rattle.commands.specs.Take.{take_right}
use Rattle.pattern_commands.specs.Behaviours.{Makes, Behaviour, silent_behaviour}

-- the gate may stop a worker at a number of the set
abbrev pub MayStop : (ℕ → ℕ → Type 0) → List Range → Type 0
MayStop may_stop ranges = (worker : ℕ) × (n : ℕ) × (is_in ranges n ≡ true) × may_stop worker n

-- the entry has a worker from 1 to `workers` and the number of a soup, and the gate let this worker survey the soup
pub record IsLetIn (lets : ℕ → ℕ → Type 0) (workers : ℕ) (entry : ℕ × ℕ) : Type 0 where
  pub least : 1 ≤ entry.0
  pub most : entry.0 ≤ workers
  pub let_in : lets entry.0 entry.1

-- The text has the census of a job over those soups of a set that were taken, and `missing` is the number of the other
-- soups (at least one). No soup was taken twice, and the gate had let each soup's worker survey it.
pub record TellsTaken (lets : ℕ → ℕ → Type 0) (workers : ℕ) (job : Job) (ranges : List Range) (missing : ℕ) (text : List ℕ) : Type 0 where
  pub normal : List Range
  pub form : IsNormalForm ranges normal
  pub taken : List (ℕ × ℕ)
  pub within : All (λ t. is_in ranges t.1 ≡ true) taken
  pub once : IsDistinct nat_eq (numbers_in taken)
  pub let_in : All (IsLetIn lets workers) taken
  pub incomplete : ¬ IsComplete normal taken
  pub missing_is : missing ≡ length (missing_of normal taken)
  pub census : Census
  pub counted : IsCensus job normal (numbers_in taken) census
  pub text_is : text ≡ haul_text census

-- What is right if the gate may have stopped a worker: the haul text of an incomplete haul, which lacks `missing`
-- soups; or else a refusal. The parts of the job are checked before the set.
abbrev pub stopped_right : (may_stop lets : ℕ → ℕ → Type 0) → Plan → (workers missing : ℕ) → Right
stopped_right may_stop lets plan workers missing =
    IsRightGiven (job_named plan) (λ job. IsRightForSet plan.set (λ ranges text.
    MayStop may_stop ranges × TellsTaken lets workers job ranges missing text))

-- `whole` if no soup is missing, and otherwise `stopped` for the number of missing soups
abbrev pub right_if : Right → (ℕ → Right) → ℕ → Right
right_if whole stopped zero = whole
right_if whole stopped (suc n) = stopped (suc n)

-- what is right for `take` with a gate: the haul text of all soups, or of some if the gate may have stopped a worker
abbrev pub taken_right : (may_stop lets : ℕ → ℕ → Type 0) → Plan → (workers : ℕ) → Makes
taken_right may_stop lets plan workers (Ok made) =
    right_if (take_right plan) (stopped_right may_stop lets plan workers) made.missing (Ok made.text) × (made.diagnostics ≡ [])
taken_right may_stop lets plan workers (Err complaint) = take_right plan (Err complaint)

-- the behaviour of `take` with a gate and this many workers
abbrev pub gated_behaviour : (may_stop lets : ℕ → ℕ → Type 0) → Plan → (workers : ℕ) → Behaviour
gated_behaviour may_stop lets plan workers = silent_behaviour false true (λ bytes. taken_right may_stop lets plan workers)
