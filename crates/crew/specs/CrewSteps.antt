-- How a crew is run: the workers are started one at a time, and at the end all of them are back.
use Rattle.std.specs.Prelude.{◌≡◌, ◌≤◌, ◌+◌, ◌++◌, ◌∷◌, [], ℕ, All, Bool, List, None, Option, Some, false, if◌then◌else◌, length, map, true, vec_capacity}
use Rattle.std.specs.List.{range_with_len}
use Rattle.std.specs.List.Sorted.{IsStrictlyIncreasing}
use Rattle.memory.specs.declared.OutOfMemory.{OutOfMemory}
use Rattle.haul_core.specs.Books.{Held}
use Rattle.haul_core.specs.Reports.{IsWorker}
use Rattle.handover.specs.Belts.{Presented, deaf, silent}
use Rattle.handover.specs.Tickets.{Drawn, fresh}
use Rattle.crew.specs.Crews.{Collected, Collector, collector_with}
use Rattle.crew.specs.Takes.{was_missing}
use Rattle.crew.specs.Workers.{Leaves, first_stopped, how_many_started, lacks_memory, sender_numbers, was_stopped}
use Rattle.crew.specs.declared.note.Note.{Note}
use Rattle.crew.specs.declared.crew_setup.CrewSetup.{CrewSetup}
use Rattle.crew.specs.declared.endpoints.Endpoints.{Endpoints}
use Rattle.crew.specs.declared.worker.End.{End}
use Rattle.crew.specs.declared.worker.WorkerResult.{WorkerResult}
use Rattle.crew.specs.declared.shared.Shared.{Shared}
use Rattle.crew.specs.declared.take.Crew.{Crew}
use Rattle.crew.specs.declared.take.CrewError.{CrewError}
use Rattle.crew.specs.declared.take.CrewError.TheVariants.{Memory, Stopped}

-- a crew's collector, which waits for this many workers
abbrev pub collector_of : ℕ → Crew → Collector
collector_of awaited crew = collector_with awaited crew.receiver crew.haul

-- `endpoint` was the last pair of the old endpoints, and was removed
pub record IsTakenOut (endpoint : Drawn × Presented Note) (old new : Endpoints) : Type 0 where
  pub passes : old.passes.items ≡ new.passes.items ++ endpoint.0 ∷ []
  pub senders : old.senders.items ≡ new.senders.items ++ endpoint.1 ∷ []

-- there are no endpoints, and there is room for the endpoints of this many workers
pub record HaveRoom (workers : ℕ) (endpoints : Endpoints) : Type 0 where
  pub no_passes : endpoints.passes.items ≡ []
  pub no_senders : endpoints.senders.items ≡ []
  pub for_passes : workers ≤ vec_capacity endpoints.passes
  pub for_senders : workers ≤ vec_capacity endpoints.senders

-- A crew of `wanted` workers is ready to survey the missing soups of a haul: there are the soups' numbers, a ticket for
-- each number, a belt, and for each worker an unused pass, a silent sender, and room for these two when it has ended.
pub record IsSetUp (held : Held) (wanted : ℕ) (setup : CrewSetup) : Type 0 where
  pub job : setup.shared.job ≡ held.terms.job
  pub missing : setup.shared.missing.items ≡ was_missing held
  pub ascending : IsStrictlyIncreasing setup.shared.missing.items
  pub workers : setup.shared.belt.workers ≡ wanted
  pub tickets : setup.shared.tickets.passes ≡ wanted
  pub passes : All (λ p. p ≡ fresh setup.shared.tickets) setup.endpoints.passes.items
  pub few : wanted ≤ 16
  pub many : length setup.endpoints.passes.items ≡ wanted
  pub senders : setup.endpoints.senders.items ≡ map (silent setup.shared.belt.name) (range_with_len 1 wanted)
  pub receiver : setup.receiver ≡ deaf setup.shared.belt
  pub back : HaveRoom wanted setup.back

-- a pass and a sender were appended, and the capacities are unchanged
pub record HasAddedEndpoint (pass : Drawn) (sender : Presented Note) (old new : Endpoints) : Type 0 where
  pub passes : new.passes.items ≡ old.passes.items ++ pass ∷ []
  pub senders : new.senders.items ≡ old.senders.items ++ sender ∷ []
  pub for_passes : vec_capacity new.passes ≡ vec_capacity old.passes
  pub for_senders : vec_capacity new.senders ≡ vec_capacity old.senders

-- the first stopped worker: `first` if there is one, otherwise `worker` if it was stopped, and otherwise `None`
abbrev pub stopped_with : Option ℕ → ℕ → End → Option ℕ
stopped_with (Some first) worker ended = Some first
stopped_with None worker ended = if was_stopped ended then Some worker else None

-- why soups may be missing: a gate stopped a worker or, if no worker was stopped, memory ran out; `None` if neither
-- happened
abbrev pub cause_of : Option ℕ → Option OutOfMemory → Option CrewError
cause_of (Some worker) lacking = Some (Stopped worker)
cause_of None (Some error) = Some (Memory error)
cause_of None None = None

-- A worker can be started with each pair of endpoints: no pair was used yet, each sender has a worker's number, no
-- worker was stopped or is back, there is room for all that come back, and at most 255 workers will be away.
pub record MayRun (shared : Shared) (crew : Crew) : Type 0 where
  pub passes : All (λ p. p ≡ fresh shared.tickets) crew.endpoints.passes.items
  pub senders : All (λ s. s ≡ silent shared.belt.name s.number) crew.endpoints.senders.items
  pub workers : All (λ s. IsWorker s.number) crew.endpoints.senders.items
  pub many : length crew.endpoints.passes.items ≡ length crew.endpoints.senders.items
  pub few : crew.away + length crew.endpoints.senders.items ≤ 255
  pub receiver : crew.receiver.belt ≡ shared.belt
  pub back : HaveRoom (length crew.endpoints.senders.items) crew.back
  pub stopped : crew.stopped ≡ None

-- The workers of all the old endpoints are back, in the order of the endpoints, with their results. The collector has
-- waited for the workers that were started, and for the workers that were already away.
pub record HasRunAll (may_stop lets : ℕ → ℕ → Type 0) (shared : Shared) (old new : Crew) : Type 0 where
  pub results : List WorkerResult
  pub left : All (λ s. Leaves may_stop lets shared s.sender.number s) results
  pub numbers : map (λ s. s.sender.number) results ≡ sender_numbers old.endpoints.senders.items
  pub passes : new.back.passes.items ≡ map (λ s. s.pass) results
  pub senders : new.back.senders.items ≡ map (λ s. s.sender) results
  pub for_passes : vec_capacity new.back.passes ≡ vec_capacity old.back.passes
  pub for_senders : vec_capacity new.back.senders ≡ vec_capacity old.back.senders
  pub away : new.away ≡ old.away
  pub stopped : new.stopped ≡ first_stopped results
  pub answered : Bool
  pub heard : new.lacking ≡ None → answered ≡ true
  pub lacking : new.lacking ≡ None → All (λ s. lacks_memory s.end ≡ false) results
  pub collected : Collected (collector_of (old.away + how_many_started results) old) (collector_of 0 new) answered
