-- How a haul over a set is opened and completed.
use Rattle.std.specs.Prelude.{◌≡◌, ◌⊎◌, ◌++◌, ℕ, All, List, [], Ok, Err, nat_eq, true}
use Rattle.std.specs.List.{IsDistinct}
use Rattle.survey_core.specs.declared.job.Job.{Job}
use Rattle.ranges.specs.declared.range.Range.{Range}
use Rattle.haul_core.specs.Books.{Held, StandsFor}
use Rattle.haul_core.specs.Keeping.{numbers_in}
use Rattle.haul_core.specs.Missing.{AreAll, IsComplete}
use Rattle.ranges.specs.RangeLists.{IsListText}
use Rattle.ranges.specs.Ranges.{AreSmall, IsNormalForm, Overlap, is_in}
use Rattle.crew.specs.Workers.{StopsAt}
use Rattle.crew.specs.Takes.{was_missing}
use Rattle.pattern_commands.specs.declared.ending.complaint.Complaint.{Complaint}
use Rattle.pattern_commands.specs.declared.ending.complaint.Complaint.TheVariants.{Refused, Memory, ReadFailed, TooLong, WriteFailed}
use Rattle.requests.specs.declared.plan.Plan.{Plan}
use Rattle.requests.specs.declared.plan.SoupSet.{SoupSet}
use Rattle.pattern_commands.specs.Answers.{NeedsMemory, Right}
use Rattle.commands.specs.SoupSets.{AreRangesOf, IsRefused, job_named}
use Rattle.commands.specs.Stopped.{IsLetIn}

-- A complaint that may end a command before it writes: a refusal that is right, or out of memory. Out of memory may end
-- the command only if every right complaint needs memory to be found.
abbrev pub Stops : Right → Complaint → Type 0
Stops right (Refused refusal) = right (Err (Refused refusal))
Stops right (Memory error) = (complaint : Complaint) → right (Err complaint) → NeedsMemory complaint
Stops right (ReadFailed error) = ⊥
Stops right TooLong = ⊥
Stops right (WriteFailed error) = ⊥

-- which complaints about a set may end a command before it writes: a refusal that is right, or out of memory if the
-- list of ranges is valid
abbrev pub StopsSet : SoupSet → Complaint → Type 0
StopsSet set (Refused refusal) = IsRefused set refusal
StopsSet set (Memory error) = IsListText set.also
StopsSet set (ReadFailed error) = ⊥
StopsSet set TooLong = ⊥
StopsSet set (WriteFailed error) = ⊥

-- the normal form of the ranges of a set, which are small enough for a haul and share no number
pub record AreNormalRanges (set : SoupSet) (normal : List Range) : Type 0 where
  pub ranges : List Range
  pub named : AreRangesOf set ranges
  pub only : (others : List Range) → AreRangesOf set others → others ≡ ranges
  pub small : AreSmall ranges
  pub apart : ¬ Overlap ranges
  pub form : IsNormalForm ranges normal

-- an empty haul of a job over the ranges of a set, for this many workers
pub record IsOpened (job : Job) (set : SoupSet) (workers : ℕ) (held : Held) : Type 0 where
  pub over : AreNormalRanges set held.terms.ranges
  pub job_is : held.terms.job ≡ job
  pub workers_are : held.terms.workers ≡ workers
  pub stands : StandsFor [] held

-- an empty haul over the set of a plan, for this many workers and the plan's job
pub record IsOpenedFor (plan : Plan) (workers : ℕ) (held : Held) : Type 0 where
  pub job : Job
  pub named : job_named plan ≡ Ok job
  pub opened : IsOpened job plan.set workers held

-- A complaint that may end a command before its haul is open: about the seed, the profile or the rule, or otherwise
-- about the set.
abbrev pub StopsOpening : Plan → Complaint → Type 0
StopsOpening plan complaint = (job_named plan ≡ Err complaint)
    ⊎ ((job : Job) × (job_named plan ≡ Ok job) × StopsSet plan.set complaint)

-- what became of a haul: all its soups were taken; or some weren't, and the gate may have stopped a worker at a number
-- that was missing before
abbrev pub EndsCrew : (ℕ → ℕ → Type 0) → Held → Held → Type 0
EndsCrew may_stop old new = (IsComplete new.terms.ranges new.taken × AreAll new.terms.ranges (numbers_in new.taken))
    ⊎ ((¬ IsComplete new.terms.ranges new.taken) × (worker : ℕ) × StopsAt may_stop (was_missing old) worker)

-- a haul still has all that it had taken, and perhaps it has taken more
pub record HasTakenMore (old new : Held) : Type 0 where
  pub terms : new.terms ≡ old.terms
  pub closed : new.closed ≡ old.closed
  pub more : List (ℕ × ℕ)
  pub taken : new.taken ≡ old.taken ++ more

-- for each soup that the haul has taken since its old state, the gate let the soup's worker survey it
pub record HasLetIn (lets : ℕ → ℕ → Type 0) (workers : ℕ) (old new : Held) : Type 0 where
  pub more : List (ℕ × ℕ)
  pub taken : new.taken ≡ old.taken ++ more
  pub let_in : All (IsLetIn lets workers) more

-- A crew has worked on a haul that was opened over the set of a plan. The haul has taken soups of the set, none of them
-- twice, and the gate let each soup's worker survey it.
pub record IsTaken (may_stop lets : ℕ → ℕ → Type 0) (plan : Plan) (workers : ℕ) (held : Held) : Type 0 where
  pub opened : Held
  pub is : IsOpenedFor plan workers opened
  pub grown : HasTakenMore opened held
  pub within : All (λ t. is_in held.terms.ranges t.1 ≡ true) held.taken
  pub once : IsDistinct nat_eq (numbers_in held.taken)
  pub let_in : All (IsLetIn lets workers) held.taken
  pub ends : EndsCrew may_stop opened held
