-- What a worker of the crew reports, and its result.
use Rattle.std.specs.Prelude.{◌≡◌, ◌<◌, ◌++◌, ◌∷◌, ◌⊎◌, [], ℕ, All, AllPairs, Bool, Contains, List, Option, count_by}
use Rattle.std.specs.Prelude.{false, flat_map, length, map, option_map, slice_index, true}
use Rattle.std.specs.List.{find}
use Rattle.memory.specs.declared.OutOfMemory.{OutOfMemory}
use Rattle.survey_core.specs.declared.job.Job.{Job}
use Rattle.haul_core.specs.Reports.{Reported}
use Rattle.handover.specs.Belts.{Presented}
use Rattle.handover.specs.Tickets.{Drawn}
use Rattle.crew.specs.Crews.{is_done, report_in}
use Rattle.crew.specs.declared.note.Note.{Note}
use Rattle.crew.specs.declared.note.Note.TheVariants.{Done}
use Rattle.crew.specs.declared.worker.End.{End}
use Rattle.crew.specs.declared.worker.End.TheVariants.{CalledOff, Drained, Memory, Stopped, Unstarted}
use Rattle.crew.specs.declared.worker.WorkerResult.{WorkerResult}
use Rattle.crew.specs.declared.shared.Shared.{Shared}

-- the reports among a worker's notes, in order
abbrev pub reported : List Note → List Reported
reported notes = flat_map report_in notes

-- the report is this worker's, for this job, and on a soup that the gate lets this worker survey
abbrev pub IsOwnReport : (ℕ → ℕ → Type 0) → Job → ℕ → Reported → Type 0
IsOwnReport lets job worker r = (r.worker ≡ worker) × (r.job ≡ job) × lets worker r.number

-- The worker has reported its own surveys of the soups at these places in the list of missing numbers, in this order.
-- The places ascend.
pub record HasReported (lets : ℕ → ℕ → Type 0) (shared : Shared) (places : List ℕ) (sender : Presented Note) : Type 0 where
  pub belt : sender.belt ≡ shared.belt.name
  pub ascending : AllPairs (λ x y. x < y) places
  pub below : All (λ t. t < length shared.missing.items) places
  pub numbers : map (λ r. r.number) (reported sender.notes) ≡ map (slice_index shared.missing.items) places
  pub own : All (IsOwnReport lets shared.job sender.number) (reported sender.notes)

-- the number of each sender, in order
abbrev pub sender_numbers : List (Presented Note) → List ℕ
sender_numbers passes = map (λ s. s.number) passes

-- no note says that a worker is done
abbrev pub AreNotDone : List Note → Type 0
AreNotDone notes = All (λ note. is_done note ≡ false) notes

-- the worker's last note says that it is done, and no other note does
abbrev pub EndsByDone : ℕ → List Note → Type 0
EndsByDone worker notes = (prefix : List Note) × AreNotDone prefix × (notes ≡ prefix ++ Done worker ∷ [])

-- the gate may stop the worker at some number that is missing
abbrev pub StopsAt : (ℕ → ℕ → Type 0) → List ℕ → ℕ → Type 0
StopsAt may_stop missing worker = (n : ℕ) × Contains missing n × may_stop worker n

-- these places are all that were drawn, or all except the last
abbrev pub AreAllButLast : List ℕ → List ℕ → Type 0
AreAllButLast places drawn = (drawn ≡ places) ⊎ ((n : ℕ) × (drawn ≡ places ++ n ∷ []))

-- after these places, the worker drew one more place, and the gate let it survey the missing number at that place
pub record WasLetLast (lets : ℕ → ℕ → Type 0) (shared : Shared) (worker : ℕ) (places : List ℕ) (pass : Drawn) : Type 0 where
  pub place : ℕ
  pub drawn : pass.numbers ≡ places ++ place ∷ []
  pub below : place < length shared.missing.items
  pub let_in : lets worker (slice_index shared.missing.items place)

-- What the worker with this number has done if its surveys end as `ended` says. It has reported the soup at each place
-- that it drew, except perhaps at the last place. If no number was left, it has reported all of these soups, and a draw
-- returned `None`. If the gate stopped it, the gate may stop it at some missing number. If memory ran out, the gate let
-- it survey the soup at the last place, which it hasn't reported.
pub record HasWorked (may_stop lets : ℕ → ℕ → Type 0) (shared : Shared) (worker : ℕ) (ended : End) (pass : Drawn) (sender : Presented Note)
    : Type 0 where
  pub number : sender.number ≡ worker
  pub series : pass.series ≡ shared.tickets
  pub places : List ℕ
  pub reports : HasReported lets shared places sender
  pub drawn : AreAllButLast places pass.numbers
  pub all : ended ≡ Drained → pass.numbers ≡ places
  pub heard : ended ≡ Drained → pass.heard_none ≡ true
  pub stops : ended ≡ Stopped → StopsAt may_stop shared.missing.items worker
  pub lacks : (error : OutOfMemory) → ended ≡ Memory error → WasLetLast lets shared worker places pass

-- the worker has begun to work
abbrev pub has_begun : End → Bool
has_begun CalledOff = false
has_begun (Unstarted error) = false
has_begun _ = true

-- a thread was started for the worker
abbrev pub was_started : End → Bool
was_started (Unstarted error) = false
was_started _ = true

-- the gate stopped the worker
abbrev pub was_stopped : End → Bool
was_stopped Stopped = true
was_stopped _ = false

-- there was no memory for a survey, or for a thread
abbrev pub lacks_memory : End → Bool
lacks_memory (Memory error) = true
lacks_memory (Unstarted error) = true
lacks_memory _ = false

-- The result of the worker with this number. If the worker has begun to work, its last note says that it is done. If it
-- was called off, it has sent no notes.
pub record Leaves (may_stop lets : ℕ → ℕ → Type 0) (shared : Shared) (worker : ℕ) (worker_result : WorkerResult) : Type 0 where
  pub worked : HasWorked may_stop lets shared worker worker_result.end worker_result.pass worker_result.sender
  pub done : has_begun worker_result.end ≡ true → EndsByDone worker worker_result.sender.notes
  pub silent_if : worker_result.end ≡ CalledOff → worker_result.sender.notes ≡ []

-- what a worker's thread returns
pub record Returns (may_stop lets : ℕ → ℕ → Type 0) (shared : Shared) (worker : ℕ) (worker_result : WorkerResult) : Type 0 where
  pub left : Leaves may_stop lets shared worker worker_result
  pub started : was_started worker_result.end ≡ true

-- how many of the workers had a thread of their own
abbrev pub how_many_started : List WorkerResult → ℕ
how_many_started results = count_by (λ s. was_started s.end) results

-- the number of the first worker in the list that the gate stopped, if there is one
abbrev pub first_stopped : List WorkerResult → Option ℕ
first_stopped results = option_map (λ s. s.sender.number) (find (λ s. was_stopped s.end) results)
