-- A crew is run by recursion: a worker is started, the crew is run with the other endpoints, and the worker comes back.
use Rattle.std.proofs.Common.{◌≡◌, ◌≢◌, ◌≤◌, ◌+◌, ◌-◌, ◌++◌, ◌∙◌, ◌<◌, ℕ, All, Bool, true, false, List, [], ◌∷◌, ap}
use Rattle.std.proofs.Common.{arith, cond, length}
use Rattle.std.proofs.Common.{map, refl, subst, subst₂, sym}
use Rattle.std.specs.Prelude.{None, Option, Some, is_some, not, vec_capacity}
use Rattle.std.specs.List.{range_with_len}
use Rattle.std.proofs.lemmas.List.{length-append, length-map, map-append}
use Rattle.std.proofs.lemmas.List.Elements.{All-head, All-nil, All-push}
use mir.Val.{bool_byte}
use Rattle.memory.specs.declared.OutOfMemory.{OutOfMemory}
use Rattle.haul_core.specs.Books.{Held}
use Rattle.haul_core.specs.Reports.{IsWorker}
use Rattle.handover.specs.Belts.{Presented, Received, silent}
use Rattle.handover.specs.Tickets.{Drawn, fresh}
use Rattle.crew.specs.CrewSteps.{HasRunAll, HaveRoom, HasAddedEndpoint, IsTakenOut, MayRun, cause_of, collector_of, stopped_with}
use Rattle.crew.specs.Crews.{Collected, Collector, collector_with}
use Rattle.crew.specs.Workers.{Leaves, how_many_started, lacks_memory, sender_numbers, was_started}
use Rattle.crew.specs.declared.note.Note.{Note}
use Rattle.crew.specs.declared.endpoints.Endpoints.{Endpoints}
use Rattle.crew.specs.declared.worker.WorkerResult.{WorkerResult}
use Rattle.crew.specs.declared.shared.Shared.{Shared}
use Rattle.crew.specs.declared.take.Crew.{Crew}
use Rattle.crew.specs.declared.take.CrewError.TheVariants as crew_error
use Rattle.crew.proofs.ListLemmas.{all_left, all_right, count_append, count_cons}
use Rattle.crew.proofs.WorkerLemmas.{stopped_more}
use Rattle.crew.proofs.TakeLemmas.{all_silent, all_workers, silent_length}

-- the crew with only these endpoints left, and `started` more of its workers away
abbrev pub left_with : Crew → Endpoints → ℕ → Crew
left_with crew endpoints started = record {
  endpoints = endpoints;
  haul = crew.haul;
  receiver = crew.receiver;
  back = crew.back;
  away = crew.away + started;
  stopped = crew.stopped;
  lacking = crew.lacking;
}

-- `MayRun` holds at the start, when no endpoints were used and no worker is back
pub ready_first : (shared : Shared) (crew : Crew) (workers : ℕ)
    → All (λ p. p ≡ fresh shared.tickets) crew.endpoints.passes.items → length crew.endpoints.passes.items ≡ workers
    → crew.endpoints.senders.items ≡ map (silent shared.belt.name) (range_with_len 1 workers) → workers ≤ 16 → crew.away ≡ 0
    → crew.receiver.belt ≡ shared.belt → HaveRoom workers crew.back → crew.stopped ≡ None → MayRun shared crew
ready_first shared crew workers passes many senders few away receiver room stopped =
    let count : length crew.endpoints.senders.items ≡ workers = ap length senders ∙ silent_length shared.belt.name workers in
    record {
      passes = passes;
      senders = subst (All (λ (s : Presented Note). s ≡ silent shared.belt.name s.number)) (sym senders)
          (all_silent shared.belt.name (range_with_len 1 workers));
      workers = subst (All (λ (s : Presented Note). IsWorker s.number)) (sym senders)
          (all_workers shared.belt.name 1 workers (omega arith) (omega (arith, few)));
      many = many ∙ sym count;
      few = omega (arith, count, few, away);
      receiver = receiver;
      back = subst (λ (n : ℕ). HaveRoom n crew.back) (sym count) room;
      stopped = stopped;
    }

-- the flag `answered` of `Collected`, which is `not (is_some lacking)` here, is true if `lacking` is `None`
pub heard_if : {E : Type 0} (lacking : Option E) → lacking ≡ None → not (is_some lacking) ≡ true
heard_if lacking none = ap (λ o. not (is_some o)) none

-- if the cause of missing soups is a stopped worker, `stopped` holds this worker
pub cause_stopped : (stopped : Option ℕ) (lacking : Option OutOfMemory) (worker : ℕ)
    → cause_of stopped lacking ≡ Some (crew_error.Stopped worker) → stopped ≡ Some worker
cause_stopped (Some first) lacking worker is = cc
cause_stopped None (Some error) worker is = absurd (cc)
cause_stopped None None worker is = absurd (cc)

pub cause_none : (stopped : Option ℕ) (lacking : Option OutOfMemory) → cause_of stopped lacking ≡ None → (stopped ≡ None) × (lacking ≡ None)
cause_none (Some first) lacking is = absurd (cc)
cause_none None (Some error) is = absurd (cc)
cause_none None None is = (refl, refl)

pub cause_open : (stopped : Option ℕ) (lacking : Option OutOfMemory) → cause_of stopped lacking ≢ Some crew_error.Closed
cause_open (Some first) lacking is = absurd (cc)
cause_open None (Some error) is = absurd (cc)
cause_open None None is = absurd (cc)

-- a `Bool` as a number is at most 1
pub one_at_most : (b : Bool) (n : ℕ) → n ≡ bool_byte b → n ≤ 1
one_at_most true n is = omega (arith, is)
one_at_most false n is = omega (arith, is)

-- a sum is at least its second summand
pub not_more : (a b n : ℕ) → n ≡ a + b → b ≤ n
not_more a b n is = omega arith

-- one more worker adds 1 to the number of started workers if a thread was started for it, and otherwise 0
started_more : (results : List WorkerResult) (worker_result : WorkerResult) (b : Bool) (n : ℕ) → was_started worker_result.end ≡ b → n ≡ bool_byte b
    → how_many_started (results ++ worker_result ∷ []) ≡ how_many_started results + n
started_more results worker_result b n is byte =
    let all = count_append (λ (s : WorkerResult). was_started s.end) results (worker_result ∷ []) in
    let one = count_cons (λ (s : WorkerResult). was_started s.end) worker_result [] in
    let here : cond {A = ℕ} (was_started worker_result.end) 1 0 ≡ cond {A = ℕ} b 1 0 = ap (λ (t : Bool). cond {A = ℕ} t 1 0) is in
    let one_if : n ≡ cond {A = ℕ} b 1 0 = byte_is b byte in
    let none : how_many_started [] ≡ 0 = refl in
    omega arith
  where
    byte_is : (t : Bool) → n ≡ bool_byte t → n ≡ cond {A = ℕ} t 1 0
    byte_is true e = e
    byte_is false e = e

module _ {shared : Shared} where
  -- the pass that was taken out is fresh
  pub pass_out : (next : Endpoints) (crew : Crew) (endpoint : Drawn × Presented Note) → MayRun shared crew
      → IsTakenOut endpoint crew.endpoints next
      → endpoint.0 ≡ fresh shared.tickets
  pass_out next crew endpoint may is =
      let P : Drawn → Type 0 = λ p. p ≡ fresh shared.tickets in
      All-head P endpoint.0 [] (all_right P next.passes.items (endpoint.0 ∷ []) (subst (All P) is.passes may.passes))

  -- the sender that was taken out has sent nothing
  pub sender_out : (next : Endpoints) (crew : Crew) (endpoint : Drawn × Presented Note) → MayRun shared crew
      → IsTakenOut endpoint crew.endpoints next
      → endpoint.1 ≡ silent shared.belt.name endpoint.1.number
  sender_out next crew endpoint may is =
      let P : Presented Note → Type 0 = λ s. s ≡ silent shared.belt.name s.number in
      All-head P endpoint.1 [] (all_right P next.senders.items (endpoint.1 ∷ []) (subst (All P) is.senders may.senders))

  -- the sender that was taken out has a worker's number
  pub worker_out : (next : Endpoints) (crew : Crew) (endpoint : Drawn × Presented Note) → MayRun shared crew
      → IsTakenOut endpoint crew.endpoints next
      → IsWorker endpoint.1.number
  worker_out next crew endpoint may is =
      let P : Presented Note → Type 0 = λ s. IsWorker s.number in
      All-head P endpoint.1 [] (all_right P next.senders.items (endpoint.1 ∷ []) (subst (All P) is.senders may.workers))

  -- the crew may be run with the endpoints that are left
  pub others_may_run : (next : Endpoints) (crew : Crew) (endpoint : Drawn × Presented Note) (started : ℕ) → started ≤ 1
      → MayRun shared crew
      → IsTakenOut endpoint crew.endpoints next → MayRun shared (left_with crew next started)
  others_may_run next crew endpoint started one may is =
      let P : Drawn → Type 0 = λ p. p ≡ fresh shared.tickets in
      let S : Presented Note → Type 0 = λ s. s ≡ silent shared.belt.name s.number in
      let passes : length crew.endpoints.passes.items ≡ length next.passes.items + 1 =
      ap length is.passes ∙ length-append next.passes.items (endpoint.0 ∷ []) in
      let senders : length crew.endpoints.senders.items ≡ length next.senders.items + 1 =
      ap length is.senders ∙ length-append next.senders.items (endpoint.1 ∷ []) in
      let many = may.many in
      let few = may.few in
      let for_passes = may.back.for_passes in
      let for_senders = may.back.for_senders in
      record {
        passes = all_left P next.passes.items (endpoint.0 ∷ []) (subst (All P) is.passes may.passes);
        senders = all_left S next.senders.items (endpoint.1 ∷ []) (subst (All S) is.senders may.senders);
        workers = let W : Presented Note → Type 0 = λ s. IsWorker s.number in
            all_left W next.senders.items (endpoint.1 ∷ []) (subst (All W) is.senders may.workers);
        many = omega (arith, passes, senders, many);
        few = omega (arith, senders, one, few);
        receiver = may.receiver;
        back = record {
          no_passes = may.back.no_passes;
          no_senders = may.back.no_senders;
          for_passes = omega (arith, senders, for_passes);
          for_senders = omega (arith, senders, for_senders);
        };
        stopped = may.stopped;
      }

module _ {may_stop lets : ℕ → ℕ → Type 0} {shared : Shared} where
  -- as many workers are back as there were senders
  as_many : (old new : Crew) (ran : HasRunAll may_stop lets shared old new) → length ran.results ≡ length old.endpoints.senders.items
  as_many old new ran =
      sym (length-map ran.results (λ (s : WorkerResult). s.sender.number)) ∙ ap length ran.numbers
      ∙ length-map old.endpoints.senders.items (λ (s : Presented Note). s.number)

  -- once the other workers are back, there is room for one more pass
  pub pass_room : (next : Endpoints) (crew mid : Crew) (endpoint : Drawn × Presented Note) (started : ℕ) → MayRun shared crew
      → IsTakenOut endpoint crew.endpoints next → HasRunAll may_stop lets shared (left_with crew next started) mid
      → length mid.back.passes.items < vec_capacity mid.back.passes
  pass_room next crew mid endpoint started may is ran =
      let senders : length crew.endpoints.senders.items ≡ length next.senders.items + 1 =
      ap length is.senders ∙ length-append next.senders.items (endpoint.1 ∷ []) in
      let back : length mid.back.passes.items ≡ length ran.results = ap length ran.passes ∙ length-map ran.results (λ (s : WorkerResult). s.pass) in
      let all = as_many (left_with crew next started) mid ran in
      let same = ran.for_passes in
      let room = may.back.for_passes in
      omega (arith, senders, back, all, same, room)

  -- once the other workers are back, there is room for one more sender
  pub sender_room : (next : Endpoints) (crew mid : Crew) (endpoint : Drawn × Presented Note) (started : ℕ) → MayRun shared crew
      → IsTakenOut endpoint crew.endpoints next → HasRunAll may_stop lets shared (left_with crew next started) mid
      → length mid.back.senders.items < vec_capacity mid.back.senders
  sender_room next crew mid endpoint started may is ran =
      let senders : length crew.endpoints.senders.items ≡ length next.senders.items + 1 =
      ap length is.senders ∙ length-append next.senders.items (endpoint.1 ∷ []) in
      let back : length mid.back.senders.items ≡ length ran.results =
      ap length ran.senders ∙ length-map ran.results (λ (s : WorkerResult). s.sender) in
      let all = as_many (left_with crew next started) mid ran in
      let same = ran.for_senders in
      let room = may.back.for_senders in
      omega (arith, senders, back, all, same, room)

  -- `HasRunAll` holds if no endpoints are left and the notes of all started workers were collected
  pub run_none : (crew new : Crew) (answered : Bool) → MayRun shared crew → crew.endpoints.senders.items ≡ []
      → Collected (collector_of crew.away crew) (collector_of 0 new) answered → (new.lacking ≡ None → answered ≡ true)
      → new.back ≡ crew.back → new.stopped ≡ crew.stopped → new.away ≡ crew.away → HasRunAll may_stop lets shared crew new
  run_none crew new answered may none collected heard back stopped away =
      record {
        results = [];
        left = All-nil (λ (s : WorkerResult). Leaves may_stop lets shared s.sender.number s);
        numbers = sym (ap sender_numbers none);
        passes = ap (λ (b : Endpoints). b.passes.items) back ∙ may.back.no_passes;
        senders = ap (λ (b : Endpoints). b.senders.items) back ∙ may.back.no_senders;
        for_passes = ap (λ (b : Endpoints). vec_capacity b.passes) back;
        for_senders = ap (λ (b : Endpoints). vec_capacity b.senders) back;
        away = away;
        stopped = stopped ∙ may.stopped;
        answered = answered;
        heard = heard;
        lacking = λ _. All-nil (λ (s : WorkerResult). lacks_memory s.end ≡ false);
        collected = let same : crew.away ≡ crew.away + how_many_started [] = (let zero_is : how_many_started [] ≡ 0 = refl in omega arith) in
            subst (λ (n : ℕ). Collected (collector_of n crew) (collector_of 0 new) answered) same collected;
      }

  -- `HasRunAll` holds once all the other workers are back, and after them the worker of `endpoint`
  pub run_more : (next : Endpoints) (crew mid new : Crew) (endpoint : Drawn × Presented Note) (worker_result : WorkerResult) (b : Bool) (started : ℕ)
      → IsTakenOut endpoint crew.endpoints next → HasRunAll may_stop lets shared (left_with crew next started) mid
      → Leaves may_stop lets shared endpoint.1.number worker_result → was_started worker_result.end ≡ b → started ≡ bool_byte b
      → HasAddedEndpoint worker_result.pass worker_result.sender mid.back new.back
      → new.stopped ≡ stopped_with mid.stopped worker_result.sender.number worker_result.end
      → (new.lacking ≡ None → mid.lacking ≡ None) → (new.lacking ≡ None → lacks_memory worker_result.end ≡ false)
      → new.haul ≡ mid.haul → new.receiver ≡ mid.receiver → new.away ≡ mid.away - started → HasRunAll may_stop lets shared crew new
  run_more next crew mid new endpoint worker_result b started is ran leaves with_thread byte back stopped before memory haul receiver away =
      record {
        results = ran.results ++ worker_result ∷ [];
        left = All-push L ran.results worker_result ran.left
            (subst (λ (w : ℕ). Leaves may_stop lets shared w worker_result) (sym leaves.worked.number) leaves);
        numbers =
            map-append number ran.results (worker_result ∷ []) ∙ (λ i. ran.numbers i ++ leaves.worked.number i ∷ [])
            ∙ sym (ap sender_numbers is.senders ∙ map-append (λ (s : Presented Note). s.number) next.senders.items (endpoint.1 ∷ []));
        passes = back.passes ∙ (λ i. ran.passes i ++ worker_result.pass ∷ []) ∙ sym (map-append (λ (s : WorkerResult). s.pass) ran.results (worker_result ∷ []));
        senders = back.senders ∙ (λ i. ran.senders i ++ worker_result.sender ∷ [])
            ∙ sym (map-append (λ (s : WorkerResult). s.sender) ran.results (worker_result ∷ []));
        for_passes = back.for_passes ∙ ran.for_passes;
        for_senders = back.for_senders ∙ ran.for_senders;
        away = away ∙ ap (λ (n : ℕ). n - started) ran.away ∙ omega arith;
        stopped =
            stopped ∙ ap (λ (o : Option ℕ). stopped_with o worker_result.sender.number worker_result.end) ran.stopped
            ∙ sym (stopped_more ran.results worker_result);
        answered = ran.answered;
        heard = λ none. ran.heard (before none);
        lacking = λ none. All-push (λ (s : WorkerResult). lacks_memory s.end ≡ false) ran.results worker_result (ran.lacking (before none)) (memory none);
        collected = subst (λ (n : ℕ). Collected (collector_of n crew) (collector_of 0 new) ran.answered) all
            (subst₂ (λ (r : Received Note) (h : Held). Collected awaited (collector_with 0 r h) ran.answered)
            (sym receiver) (sym haul) ran.collected);
      }
    where
      number : WorkerResult → ℕ
      number s = s.sender.number

      L : WorkerResult → Type 0
      L s = Leaves may_stop lets shared s.sender.number s

      awaited : Collector
      awaited = collector_of (crew.away + started + how_many_started ran.results) crew

      all : crew.away + started + how_many_started ran.results ≡ crew.away + how_many_started (ran.results ++ worker_result ∷ [])
      all = let more = started_more ran.results worker_result b started with_thread byte in omega arith
