-- What a haul takes from a crew, which reports an observer is handed, and how the workers end.
use Rattle.std.specs.Prelude.{◌≡◌, ◌<◌, ◌≤◌, ℕ, All, AllPairs, Bool, Contains, IfNone, IfSome, List, Option, count_by, false, filter, map}
use Rattle.std.specs.Prelude.{nat_eq, option_map, true}
use Rattle.std.specs.List.{IsDistinct, find, range_with_len}
use Rattle.memory.specs.Witness.{out_of_memory}
use Rattle.haul_core.specs.Books.{Held, entry}
use Rattle.haul_core.specs.Keeping.{numbers_in}
use Rattle.haul_core.specs.Missing.{missing_of}
use Rattle.haul_core.specs.Reports.{Reported}
use Rattle.haul_core.specs.Subsequences.{IsSubsequence}
use Rattle.crew.specs.Crews.{HasAdded}
use Rattle.crew.specs.Workers.{StopsAt}
use Rattle.crew.specs.declared.take.CrewError.{CrewError}
use Rattle.crew.specs.declared.take.CrewError.TheVariants.{Memory, Stopped}

-- the numbers that were missing when the crew began
abbrev pub was_missing : Held → List ℕ
was_missing held = missing_of held.terms.ranges held.taken

-- the numbers taken from one worker, in order
abbrev pub taken_by : ℕ → List (ℕ × ℕ) → List ℕ
taken_by worker taken = map (λ t. t.1) (filter (λ t. nat_eq worker t.0) taken)

-- The haul has taken reports of the crew's workers for its job. The reports are on missing numbers, no number twice,
-- and the gate let each worker survey its numbers. The numbers of each worker ascend. Any arrivals that lead to the old
-- state, followed by offers of these reports, lead to the new state.
pub record HasTaken (lets : ℕ → ℕ → Type 0) (workers : ℕ) (old new : Held) : Type 0 where
  pub offers : List Reported
  pub added : HasAdded offers old new
  pub job : All (λ r. r.job ≡ old.terms.job) offers
  pub by_workers : All (λ r. (1 ≤ r.worker) × (r.worker ≤ workers)) offers
  pub missing : All (λ r. Contains (was_missing old) r.number) offers
  pub let_in : All (λ r. lets r.worker r.number) offers
  pub once : IsDistinct nat_eq (numbers_in (map entry offers))
  pub in_order : (worker : ℕ) → 1 ≤ worker → worker ≤ workers → AllPairs (λ x y. x < y) (taken_by worker (map entry offers))

-- how many of the reports are on the soup with this number
abbrev pub times_reported : ℕ → List Reported → ℕ
times_reported n reports = count_by (nat_eq n) (map (λ r. r.number) reports)

-- An observer was handed reports of the crew's workers for the haul's job, and `hears` holds for these reports. They
-- are on missing numbers, no number twice, and the gate let each worker survey its numbers. The haul has taken some or
-- all of the reports, in the same order.
pub record HasHeardCrew (lets : ℕ → ℕ → Type 0) (workers : ℕ) (old new : Held) (hears : List Reported → Type 0) : Type 0 where
  pub reports : List Reported
  pub heard : hears reports
  pub job : All (λ r. r.job ≡ old.terms.job) reports
  pub by_workers : All (λ r. (1 ≤ r.worker) × (r.worker ≤ workers)) reports
  pub missing : All (λ r. Contains (was_missing old) r.number) reports
  pub let_in : All (λ r. lets r.worker r.number) reports
  pub once : (n : ℕ) → times_reported n reports ≤ 1
  pub offers : List Reported
  pub some : IsSubsequence offers reports
  pub added : HasAdded offers old new

-- how a worker of a crew ended: no number was left, the gate stopped it, memory ran out in a survey, or it never began
pub data WorkerEnd : Type 0 where
  NoneLeft : WorkerEnd
  StoppedByGate : WorkerEnd
  LackedMemory : WorkerEnd
  NeverBegan : WorkerEnd

-- The worker may have ended in this way. It can have been stopped only if the gate may stop it at some missing number,
-- and memory can have run out only if the gate may let it survey some missing number.
abbrev pub IsPossibleEnd : (may_stop lets : ℕ → ℕ → Type 0) → List ℕ → ℕ × WorkerEnd → Type 0
IsPossibleEnd may_stop lets missing (worker, NoneLeft) = Unit {0}
IsPossibleEnd may_stop lets missing (worker, StoppedByGate) = StopsAt may_stop missing worker
IsPossibleEnd may_stop lets missing (worker, LackedMemory) = StopsAt lets missing worker
IsPossibleEnd may_stop lets missing (worker, NeverBegan) = Unit {0}

-- the gate stopped the worker
abbrev pub is_stopped : ℕ × WorkerEnd → Bool
is_stopped (worker, StoppedByGate) = true
is_stopped (worker, NoneLeft) = false
is_stopped (worker, LackedMemory) = false
is_stopped (worker, NeverBegan) = false

-- the number of the first stopped worker in the list, or `None`; if the numbers ascend, this number is the lowest
abbrev pub lowest_stopped : List (ℕ × WorkerEnd) → Option ℕ
lowest_stopped ends = option_map (λ e. e.0) (find is_stopped ends)

-- The workers 1 to `workers` have ended, each once, and how they ended determines the error: if the gate stopped
-- workers, the error names the lowest of them, and otherwise it says that memory ran out.
pub record EndsWith (may_stop lets : ℕ → ℕ → Type 0) (missing : List ℕ) (workers : ℕ) (error : CrewError) : Type 0 where
  pub ends : List (ℕ × WorkerEnd)
  pub each : map (λ e. e.0) ends ≡ range_with_len 1 workers
  pub may : All (IsPossibleEnd may_stop lets missing) ends
  pub stopped : IfSome (lowest_stopped ends) (λ worker. error ≡ Stopped worker)
  pub memory : IfNone (lowest_stopped ends) (error ≡ Memory out_of_memory)
