-- How the workers of a crew end, and the error that follows from their ends.
use Rattle.std.proofs.Common.{◌≡◌, ◌∙◌, ℕ, All, Bool, true, false, List, [], ◌∷◌, ap, cond, map, refl, subst, sym}
use Rattle.std.specs.Prelude.{IfNone, IfSome, None, Option, Some, option_map}
use Rattle.std.specs.List.{find, range_with_len}
use Rattle.std.specs.List.Sorted.{IsStrictlyIncreasing}
use Rattle.std.proofs.lemmas.List.Elements.{All-map, Contains-get_or}
use Rattle.memory.specs.Witness.{out_of_memory}
use Rattle.memory.specs.declared.OutOfMemory.{OutOfMemory}
use Rattle.handover.specs.Belts.{IsWhole, deaf, silent}
use Rattle.crew.specs.CrewSteps.{HasRunAll, cause_of}
use Rattle.crew.specs.Takes.{EndsWith, LackedMemory, IsPossibleEnd, NeverBegan, NoneLeft, StoppedByGate, WorkerEnd, is_stopped, lowest_stopped, was_missing}
use Rattle.crew.specs.Workers.{Leaves, StopsAt, first_stopped, was_stopped}
use Rattle.crew.specs.declared.worker.End.{End}
use Rattle.crew.specs.declared.worker.End.TheVariants.{CalledOff, Drained, Memory, Stopped, Unstarted}
use Rattle.crew.specs.declared.worker.WorkerResult.{WorkerResult}
use Rattle.crew.specs.declared.shared.Shared.{Shared}
use Rattle.crew.specs.declared.take.Crew.{Crew}
use Rattle.crew.specs.declared.take.CrewError.{CrewError}
use Rattle.crew.specs.declared.take.CrewError.TheVariants as crew_error
use Rattle.crew.proofs.TakeLemmas.{all_numbers}

-- `IfSome o P` holds if `P x` holds whenever `o` is `Some x`
pub if_some : {X : Type 0} (P : X → Type 0) (o : Option X) → ((x : X) → o ≡ Some x → P x) → IfSome o P
if_some P None each = tt
if_some P (Some x) each = each x refl

-- the `WorkerEnd` that corresponds to an `End`
abbrev kind : End → WorkerEnd
kind Drained = NoneLeft
kind Stopped = StoppedByGate
kind (Memory error) = LackedMemory
kind CalledOff = NeverBegan
kind (Unstarted error) = NeverBegan

abbrev end_of : WorkerResult → ℕ × WorkerEnd
end_of s = (s.sender.number, kind s.end)

workers_of_ends : (results : List WorkerResult) → map (λ (e : ℕ × WorkerEnd). e.0) (map end_of results) ≡ map (λ s. s.sender.number) results
workers_of_ends [] = refl
workers_of_ends (s ∷ ss) = ap (λ (l : List ℕ). s.sender.number ∷ l) (workers_of_ends ss)

same_stop : (worker : ℕ) (ended : End) → is_stopped (worker, kind ended) ≡ was_stopped ended
same_stop worker Drained = refl
same_stop worker Stopped = refl
same_stop worker (Memory error) = refl
same_stop worker CalledOff = refl
same_stop worker (Unstarted error) = refl

lowest_is_first : (results : List WorkerResult) → lowest_stopped (map end_of results) ≡ first_stopped results
lowest_is_first [] = refl
lowest_is_first (s ∷ ss) = go (is_stopped (end_of s)) (was_stopped s.end) (same_stop s.sender.number s.end) (lowest_is_first ss)
  where
    go : (b c : Bool) → b ≡ c → lowest_stopped (map end_of ss) ≡ first_stopped ss
        → option_map (λ (e : ℕ × WorkerEnd). e.0) (cond b (Some (end_of s)) (find is_stopped (map end_of ss)))
        ≡ option_map (λ (t : WorkerResult). t.sender.number) (cond c (Some s) (find (λ t. was_stopped t.end) ss))
    go true true same more = refl
    go true false same more = absurd (cc)
    go false true same more = absurd (cc)
    go false false same more = more

-- the end in a worker's result is possible
may_of : {may_stop lets : ℕ → ℕ → Type 0} (shared : Shared) (missing : List ℕ) → shared.missing.items ≡ missing → (s : WorkerResult)
    → Leaves may_stop lets shared s.sender.number s → IsPossibleEnd may_stop lets missing (end_of s)
may_of {may_stop} {lets} shared missing listed s left = go s.end refl
  where
    go : (ended : End) → s.end ≡ ended → IsPossibleEnd may_stop lets missing (s.sender.number, kind ended)
    go Drained is = tt
    go Stopped is = subst (λ (l : List ℕ). StopsAt may_stop l s.sender.number) listed (left.worked.stops is)
    go (Memory error) is =
        let last = left.worked.lacks error is in
        subst (λ (l : List ℕ). StopsAt lets l s.sender.number) listed
        (_, Contains-get_or shared.missing.items last.place 0 last.below, last.let_in)
    go CalledOff is = tt
    go (Unstarted error) is = tt

-- if a worker was stopped, the error names the first stopped worker
stopped_of : (stopped : Option ℕ) (lacking : Option OutOfMemory) (error : CrewError) → cause_of stopped lacking ≡ Some error
    → IfSome stopped (λ worker. error ≡ crew_error.Stopped worker)
stopped_of (Some worker) lacking error is = cc
stopped_of None lacking error is = tt

memory_of : (stopped : Option ℕ) (lacking : Option OutOfMemory) (error : CrewError) → cause_of stopped lacking ≡ Some error
    → IfNone stopped (error ≡ crew_error.Memory out_of_memory)
memory_of (Some worker) lacking error is = tt
memory_of None (Some refused) error is = let same : error ≡ crew_error.Memory refused = cc in same
memory_of None None error is = absurd (cc)

-- the ends of the workers with these numbers, if none of the workers has begun
abbrev never_begun : (numbers : List ℕ) → List (ℕ × WorkerEnd)
never_begun numbers = map (λ worker. (worker, NeverBegan)) numbers

never_numbers : (numbers : List ℕ) → map (λ (e : ℕ × WorkerEnd). e.0) (never_begun numbers) ≡ numbers
never_numbers [] = refl
never_numbers (n ∷ ns) = ap (λ (l : List ℕ). n ∷ l) (never_numbers ns)

never_stopped : (numbers : List ℕ) → lowest_stopped (never_begun numbers) ≡ None
never_stopped [] = refl
never_stopped (n ∷ ns) = never_stopped ns

-- `EndsWith` holds if memory ran out before any worker had begun
pub ends_unbegun : (may_stop lets : ℕ → ℕ → Type 0) (missing : List ℕ) (workers : ℕ) (refused : OutOfMemory)
    → EndsWith may_stop lets missing workers (crew_error.Memory refused)
ends_unbegun may_stop lets missing workers refused =
    let none = never_stopped (range_with_len 1 workers) in
    record {
      ends = never_begun (range_with_len 1 workers);
      each = never_numbers (range_with_len 1 workers);
      may = All-map (IsPossibleEnd may_stop lets missing) (λ worker. (worker, NeverBegan)) (range_with_len 1 workers) (λ k d low. tt);
      stopped = subst (λ (o : Option ℕ). IfSome o (λ worker. crew_error.Memory refused ≡ crew_error.Stopped worker)) (sym none) tt;
      memory = subst (λ (o : Option ℕ). IfNone o (crew_error.Memory refused ≡ crew_error.Memory out_of_memory)) (sym none) refl;
    }

-- `EndsWith` holds for the error of a crew that has run
pub crew_ends : {may_stop lets : ℕ → ℕ → Type 0} (shared : Shared) (workers : ℕ) (old new : Crew) (ran : HasRunAll may_stop lets shared old new)
    (begun : old.receiver ≡ deaf shared.belt) (as_many : shared.belt.workers ≡ workers)
    (listed : shared.missing.items ≡ was_missing old.haul) (up : IsStrictlyIncreasing shared.missing.items)
    (silents : old.endpoints.senders.items ≡ map (silent shared.belt.name) (range_with_len 1 workers))
    (whole : All (IsWhole new.receiver.got) new.back.senders.items) (error : CrewError) → cause_of new.stopped new.lacking ≡ Some error
    → EndsWith may_stop lets (was_missing old.haul) workers error
crew_ends {may_stop} {lets} shared workers old new ran begun as_many listed up silents whole error is =
    let first : lowest_stopped (map end_of ran.results) ≡ new.stopped = lowest_is_first ran.results ∙ sym ran.stopped in
    record {
      ends = map end_of ran.results;
      each = workers_of_ends ran.results ∙ all_numbers shared workers old new ran begun as_many listed up silents whole;
      may = All-map (IsPossibleEnd may_stop lets (was_missing old.haul)) end_of ran.results
          (λ k d low. may_of shared (was_missing old.haul) listed _ (ran.left k d low));
      stopped = subst (λ (o : Option ℕ). IfSome o (λ worker. error ≡ crew_error.Stopped worker)) (sym first)
          (stopped_of new.stopped new.lacking error is);
      memory = subst (λ (o : Option ℕ). IfNone o (error ≡ crew_error.Memory out_of_memory)) (sym first)
          (memory_of new.stopped new.lacking error is);
    }
