-- If no worker was stopped and memory never ran out, each missing soup was taken.
--
-- The collector has received as many notes "done" as there are workers, and each worker presents at most one. So
-- exactly one was received from each worker. This is the worker's last note, so all the worker's notes were received.
-- No worker stopped early, so each went on until no number was left. So all numbers were drawn, and each of them was
-- reported.
use Rattle.std.proofs.Common.{◌≡◌, ◌<◌, ◌≤◌, ◌+◌, ◌++◌, ◌∙◌, ℕ, zero, suc, All, Bool, true, false, true≢false, List, [], ◌∷◌, ap}
use Rattle.std.proofs.Common.{◌&&◌, arith, cond, drop, get_or, length, map, nat_eq, nat_le, nat_lt, not, refl, subst, sym}
use Rattle.std.specs.Prelude.{None, count_by, slice_index}
use Rattle.std.specs.List.{range_with_len}
use Rattle.std.specs.List.Sorted.{IsStrictlyIncreasing}
use Rattle.std.proofs.lemmas.Bool.{and_from, le-leb, lt-ltb, or_left, or_right}
use Rattle.std.proofs.lemmas.List.{append-nil, length-append, length-map}
use Rattle.std.proofs.lemmas.List.FromFn.{get_or-range_with_len, length-range_with_len}
use Rattle.std.proofs.lemmas.List.Elements.{All-append, All-contains, All-filter, All-from_get_or, All-head, All-map, All-nil, All-tail}
use mathlib.Core.Logic.{dite}
use native.Mathlib.Decide.{dec_le, ℕ_discrete}
use Rattle.handover.specs.Belts.{IsWhole, deaf, notes_of, silent}
use Rattle.handover.specs.Tickets.{AreAllBelow, Drawn, drawn_by_all, how_many_heard, once_below}
use Rattle.handover.proofs.BeltLemmas.{notes_first, notes_other}
use Rattle.ranges.specs.declared.range.Range.{Range}
use Rattle.ranges.specs.Ranges.{is_in, is_in_range}
use Rattle.survey_core.specs.Jobs.{same_job}
use Rattle.survey_core.proofs.lemmas.JobLemmas.{jobs_decide}
use Rattle.haul_core.specs.Books.{Terms, entry, is_lawful}
use Rattle.haul_core.specs.Missing.{is_taken, missing_of, numbers_of, numbers_of_range}
use Rattle.haul_core.specs.Reports.{Reported}
use Rattle.crew.specs.Crews.{dones, is_done, report_in, reports_in}
use Rattle.crew.specs.Workers.{EndsByDone, Leaves, has_begun, how_many_started, lacks_memory, reported, was_started, was_stopped}
use Rattle.crew.specs.declared.note.Note.{Note}
use Rattle.crew.specs.declared.note.Note.TheVariants.{Done}
use Rattle.crew.specs.declared.worker.End.{End}
use Rattle.crew.specs.declared.worker.End.TheVariants.{CalledOff, Drained, Memory, Stopped, Unstarted}
use Rattle.crew.specs.declared.worker.WorkerResult.{WorkerResult}
use Rattle.crew.specs.declared.shared.Shared.{Shared}
use Rattle.crew.specs.declared.take.Crew.{Crew}
use Rattle.crew.specs.CrewSteps.{HasRunAll}
use Rattle.crew.specs.Takes.{was_missing}
use Rattle.crew.proofs.CrewLemmas.{taken_stays}
use Rattle.crew.proofs.ListLemmas.{all_left, all_right, all_unmap, at_place, count_all, count_append, count_none, none_pass, part_all, range_within}
use Rattle.crew.proofs.SenderSums.{up_to, up_to_all, up_to_more, up_to_none}
use Rattle.crew.proofs.WorkerLemmas.{none_stopped}
use Rattle.crew.proofs.TakeLemmas.{all_numbers, all_senders, all_whole, crew_part, each_worker, notes_are}

-- how many of these notes say that a worker is done
abbrev done_in : List Note → ℕ
done_in notes = count_by is_done notes

-- ---- one note 'done' of each worker was received

-- 1 for a note that says that a worker is done, and otherwise 0
abbrev once_done : Note → ℕ
once_done note = cond {A = ℕ} (is_done note) 1 0

-- if at most one note "done" was received from each worker, at most `workers` of them were received
up_to_few : (workers : ℕ) (got : List (ℕ × Note)) → up_to once_done 0 got ≡ 0
    → ((w : ℕ) → 1 ≤ w → w ≤ workers → done_in (notes_of w got) ≤ 1) → up_to once_done workers got ≤ workers
up_to_few zero got none each = omega (arith, none)
up_to_few (suc n) got none each =
    let fewer = up_to_few n got none (λ w some le. each w some (omega (arith, le))) in
    let last = each (suc n) (omega arith) (omega arith) in
    let more = up_to_more once_done n got in
    omega (arith, fewer, last, more)

-- if at most one note "done" was received from each worker, and `workers` altogether, exactly one is from each worker
one_of_each : (workers : ℕ) (got : List (ℕ × Note)) → up_to once_done 0 got ≡ 0
    → ((w : ℕ) → 1 ≤ w → w ≤ workers → done_in (notes_of w got) ≤ 1) → up_to once_done workers got ≡ workers
    → (w : ℕ) → 1 ≤ w → w ≤ workers → done_in (notes_of w got) ≡ 1
one_of_each zero got none each all w some le = absurd (omega (arith, some, le))
one_of_each (suc n) got none each all w some le =
    let less : (v : ℕ) → 1 ≤ v → v ≤ n → done_in (notes_of v got) ≤ 1 = λ v from to. each v from (omega (arith, to)) in
    let fewer = up_to_few n got none less in
    let last = each (suc n) (omega arith) (omega arith) in
    let more = up_to_more once_done n got in
    dite (ℕ_discrete w (suc n))
    (λ same. ap (λ (v : ℕ). done_in (notes_of v got)) same ∙ omega (arith, fewer, last, more, all))
    (λ apart. one_of_each n got none less (omega (arith, fewer, last, more, all)) w some (omega (arith, le, apart)))

-- ---- all notes of each worker were received

-- if a list of notes ends with "done", each suffix that has no note "done" is empty
nothing_after : (prefix remainder body : List Note) (worker : ℕ) → prefix ++ remainder ≡ body ++ Done worker ∷ [] → done_in remainder ≡ 0
    → remainder ≡ []
nothing_after prefix [] body worker is none = refl
nothing_after [] (x ∷ xs) body worker is none =
    let here = ap done_in is ∙ count_append is_done body (Done worker ∷ []) in
    let one : done_in (Done worker ∷ []) ≡ 1 = refl in
    absurd (omega (arith, here, one, none))
nothing_after (f ∷ fs) (x ∷ xs) [] worker is none =
    let long : length (f ∷ (fs ++ x ∷ xs)) ≡ 1 = ap length is in
    let more = length-append fs (x ∷ xs) in
    absurd (omega (arith, long, more))
nothing_after (f ∷ fs) (x ∷ xs) (b ∷ bs) worker is none =
    nothing_after fs (x ∷ xs) bs worker (ap (λ (l : List Note). drop 1 l) is) none

-- what holds for all reports that were received holds for the reports of one worker
of_worker : (P : Reported → Type 0) (worker : ℕ) (got : List (ℕ × Note)) → All P (reports_in got) → All P (reported (notes_of worker got))
of_worker P worker [] all = All-nil P
of_worker P worker (m ∷ ms) all =
    let more = of_worker P worker ms (all_right P (report_in m.1) (reports_in ms) all) in
    dite (ℕ_discrete worker m.0)
    (λ same. subst (λ (notes : List Note). All P (reported notes)) (sym (notes_first m.0 worker m.1 ms same))
    (All-append P (report_in m.1) (reported (notes_of worker ms)) (all_left P (report_in m.1) (reports_in ms) all) more))
    (λ apart. subst (λ (notes : List Note). All P (reported notes)) (sym (notes_other m.0 worker m.1 ms apart)) more)

-- if `P` holds for the numbers at the places that each worker drew, it holds for the number at any place that was drawn
drawn_somewhere : (P : ℕ → Type 0) (missing : List ℕ) (t : ℕ) (results : List WorkerResult)
    → All (λ s. All P (map (slice_index missing) s.pass.numbers)) results
    → 1 ≤ count_by (nat_eq t) (drawn_by_all (map (λ s. s.pass) results)) → P (slice_index missing t)
drawn_somewhere P missing t [] all some = absurd (let none : count_by (nat_eq t) [] ≡ 0 = refl in omega (arith, some, none))
drawn_somewhere P missing t (s ∷ ss) all some =
    let Q : WorkerResult → Type 0 = λ u. All P (map (slice_index missing) u.pass.numbers) in
    let parts = count_append (nat_eq t) s.pass.numbers (drawn_by_all (map (λ (u : WorkerResult). u.pass) ss)) in
    elim (dec_le 1 (count_by (nat_eq t) s.pass.numbers)) [
      | yes here ↦ at_place P missing s.pass.numbers t (All-head Q s ss all) here
      | no not_here ↦ drawn_somewhere P missing t ss (All-tail Q s ss all) (omega (arith, parts, some, not_here))
    ]

-- At most one note "done" was received from the worker. If one was, the worker ended because no number was left, and
-- all its notes were received.
record IsHeard (got : List (ℕ × Note)) (worker_result : WorkerResult) : Type 0 where
  few : done_in (notes_of worker_result.sender.number got) ≤ 1
  drained : done_in (notes_of worker_result.sender.number got) ≡ 1 → worker_result.end ≡ Drained
  whole : done_in (notes_of worker_result.sender.number got) ≡ 1 → notes_of worker_result.sender.number got ≡ worker_result.sender.notes

module _ {may_stop lets : ℕ → ℕ → Type 0} {shared : Shared} where
  heard : (got : List (ℕ × Note)) (worker_result : WorkerResult) → Leaves may_stop lets shared worker_result.sender.number worker_result
      → was_stopped worker_result.end ≡ false → lacks_memory worker_result.end ≡ false → IsWhole got worker_result.sender → IsHeard got worker_result
  heard got worker_result left not_stopped not_lacking whole = go worker_result.end refl
    where
      prefix : List Note
      prefix = notes_of worker_result.sender.number got

      remainder : List Note
      remainder = drop (length prefix) worker_result.sender.notes

      parts : done_in prefix + done_in remainder ≡ done_in worker_result.sender.notes
      parts = sym (count_append is_done prefix remainder) ∙ ap done_in whole

      ended : worker_result.end ≡ Drained → IsHeard got worker_result
      ended is =
          let e : EndsByDone worker_result.sender.number worker_result.sender.notes = left.done (ap has_begun is) in
          let none : done_in e.0 ≡ 0 = count_none is_done e.0 e.1 in
          let one : done_in (Done worker_result.sender.number ∷ []) ≡ 1 = refl in
          let all : done_in worker_result.sender.notes ≡ done_in e.0 + done_in (Done worker_result.sender.number ∷ []) =
          ap done_in e.2 ∙ count_append is_done e.0 (Done worker_result.sender.number ∷ []) in
          record {
            few = omega (arith, parts, none, one, all);
            drained = λ _. is;
            whole = λ received.
                let nothing : remainder ≡ [] =
                nothing_after prefix remainder e.0 worker_result.sender.number (whole ∙ e.2) (omega (arith, parts, none, one, all, received)) in
                sym (append-nil prefix) ∙ ap (λ (l : List Note). prefix ++ l) (sym nothing) ∙ whole;
          }

      off : worker_result.end ≡ CalledOff → IsHeard got worker_result
      off is =
          let none : done_in worker_result.sender.notes ≡ 0 = ap done_in (left.silent_if is) in
          record {
            few = omega (arith, parts, none);
            drained = λ received. absurd (omega (arith, parts, none, received));
            whole = λ received. absurd (omega (arith, parts, none, received));
          }

      go : (e : End) → worker_result.end ≡ e → IsHeard got worker_result
      go Drained is = ended is
      go Stopped is = absurd (true≢false (sym (ap was_stopped is) ∙ not_stopped))
      go (Memory error) is = absurd (true≢false (sym (ap lacks_memory is) ∙ not_lacking))
      go CalledOff is = off is
      go (Unstarted error) is = absurd (true≢false (sym (ap lacks_memory is) ∙ not_lacking))

-- ---- each drawn number was reported

module _ {may_stop lets : ℕ → ℕ → Type 0} {shared : Shared} (workers : ℕ) (got : List (ℕ × Note)) (results : List WorkerResult)
    (numbers : map (λ (s : WorkerResult). s.sender.number) results ≡ range_with_len 1 workers)
    (left : All (λ (s : WorkerResult). Leaves may_stop lets shared s.sender.number s) results)
    (not_stopped : All (λ (s : WorkerResult). was_stopped s.end ≡ false) results)
    (not_lacking : All (λ (s : WorkerResult). lacks_memory s.end ≡ false) results)
    (whole : All (λ (s : WorkerResult). IsWhole got s.sender) results)
    (senders : All (λ (m : ℕ × Note). (1 ≤ m.0) × (m.0 ≤ workers)) got) (done : dones got ≡ workers) where
  all_heard : All (IsHeard got) results
  all_heard k d lt = heard got (get_or results k d) (left k d lt) (not_stopped k d lt) (not_lacking k d lt) (whole k d lt)

  one_received : (worker : ℕ) → 1 ≤ worker → worker ≤ workers → done_in (notes_of worker got) ≡ 1
  one_received =
      one_of_each workers got (up_to_none once_done got (λ k d lt. (senders k d lt).0))
      (each_worker (λ w. done_in (notes_of w got) ≤ 1) workers results numbers (λ k d lt. (all_heard k d lt).few))
      (up_to_all once_done workers got (λ k d lt. (senders k d lt).1) ∙ done)

  one_of_result : All (λ (s : WorkerResult). done_in (notes_of s.sender.number got) ≡ 1) results
  one_of_result k d lt =
      let P : ℕ → Type 0 = λ w. (1 ≤ w) × (w ≤ workers) in
      let within = all_unmap P (λ (s : WorkerResult). s.sender.number) results
      (subst (All P) (sym numbers) (range_within 1 workers workers (omega arith))) k d lt in
      one_received (get_or results k d).sender.number within.0 within.1

  -- each worker ended because no number was left
  pub all_drained : All (λ (s : WorkerResult). s.end ≡ Drained) results
  all_drained k d lt = (all_heard k d lt).drained (one_of_result k d lt)

  -- all notes of each worker were received
  all_received : All (λ (s : WorkerResult). notes_of s.sender.number got ≡ s.sender.notes) results
  all_received k d lt = (all_heard k d lt).whole (one_of_result k d lt)

  -- what holds for the numbers of all received reports holds for the numbers at the places that each worker drew
  of_result : (P : ℕ → Type 0) → All (λ (r : Reported). P r.number) (reports_in got)
      → All (λ (s : WorkerResult). All P (map (slice_index shared.missing.items) s.pass.numbers)) results
  of_result P all k d lt =
      let s = get_or results k d in
      let worked = (left k d lt).worked in
      let number : Reported → ℕ = λ r. r.number in
      let reports : All (λ (r : Reported). P r.number) (reported s.sender.notes) =
      subst (λ (notes : List Note). All (λ (r : Reported). P r.number) (reported notes)) (all_received k d lt)
      (of_worker (λ (r : Reported). P r.number) s.sender.number got all) in
      subst (λ (places : List ℕ). All P (map (slice_index shared.missing.items) places)) (sym (worked.all (all_drained k d lt)))
      (subst (All P) worked.reports.numbers (All-map P number (reported s.sender.notes) reports))

  -- what holds for the numbers of all received reports holds for the number at any place that some worker drew
  pub of_all_drawn : (P : ℕ → Type 0) → All (λ (r : Reported). P r.number) (reports_in got) → (t : ℕ)
      → 1 ≤ count_by (nat_eq t) (drawn_by_all (map (λ (s : WorkerResult). s.pass) results)) → P (slice_index shared.missing.items t)
  of_all_drawn P all t some = drawn_somewhere P shared.missing.items t results (of_result P all) some

  -- for some worker, a draw returned `None`
  pub some_heard : 1 ≤ workers → 0 < how_many_heard (map (λ (s : WorkerResult). s.pass) results)
  some_heard some =
      let long : length results ≡ workers = sym (length-map results (λ (s : WorkerResult). s.sender.number)) ∙ ap length numbers ∙ length-range_with_len 1 workers in
      let heard_all : All (λ (p : Drawn). p.heard_none ≡ true) (map (λ (s : WorkerResult). s.pass) results) =
      All-map (λ (p : Drawn). p.heard_none ≡ true) (λ (s : WorkerResult). s.pass) results (λ k d lt. (left k d lt).worked.heard (all_drained k d lt)) in
      let all = count_all (λ (p : Drawn). p.heard_none) (map (λ (s : WorkerResult). s.pass) results) heard_all in
      let same = length-map results (λ (s : WorkerResult). s.pass) in
      omega (arith, some, long, all, same)

-- ---- missing numbers, and workers that were started

-- the numbers listed from ranges are in these ranges
numbers_in_set : (ranges : List Range) → All (λ n. is_in ranges n ≡ true) (numbers_of ranges)
numbers_in_set [] = All-nil (λ n. is_in [] n ≡ true)
numbers_in_set (r ∷ rs) =
    All-append (λ n. is_in (r ∷ rs) n ≡ true) (numbers_of_range r) (numbers_of rs)
    (λ k d lt.
    let n = get_or (numbers_of_range r) k d in
    let long = length-range_with_len r.first r.count in
    let here : n ≡ r.first + k = get_or-range_with_len r.first r.count k d (omega (arith, lt, long)) in
    or_left (is_in_range n r) (is_in rs n)
    (and_from (nat_le r.first n) (nat_lt n (r.first + r.count)) (le-leb r.first n (omega (arith, here)))
    (lt-ltb n (r.first + r.count) (omega (arith, here, lt, long)))))
    (λ k d lt. or_right (is_in_range (get_or (numbers_of rs) k d) r) (is_in rs (get_or (numbers_of rs) k d)) (numbers_in_set rs k d lt))

-- the missing numbers are in the ranges
missing_in_set : (ranges : List Range) (taken : List (ℕ × ℕ)) → All (λ n. is_in ranges n ≡ true) (missing_of ranges taken)
missing_in_set ranges taken =
    All-filter (λ n. not (is_taken taken n)) (λ n. is_in ranges n ≡ true) (numbers_of ranges) (numbers_in_set ranges)

-- a worker that lacked no memory was started
not_lacking_started : (ended : End) → lacks_memory ended ≡ false → was_started ended ≡ true
not_lacking_started Drained h = refl
not_lacking_started Stopped h = refl
not_lacking_started (Memory error) h = absurd (cc)
not_lacking_started CalledOff h = refl
not_lacking_started (Unstarted error) h = absurd (cc)

-- ---- the whole crew

-- all workers are back, and none was stopped or lacked memory
module _ {may_stop lets : ℕ → ℕ → Type 0} (shared : Shared) (workers : ℕ) (old new : Crew) (ran : HasRunAll may_stop lets shared old new)
    (begun : old.receiver ≡ deaf shared.belt) (as_many : shared.belt.workers ≡ workers)
    (listed : shared.missing.items ≡ was_missing old.haul) (up : IsStrictlyIncreasing shared.missing.items)
    (silents : old.endpoints.senders.items ≡ map (silent shared.belt.name) (range_with_len 1 workers))
    (whole : All (IsWhole new.receiver.got) new.back.senders.items)
    (some : 1 ≤ workers) (few : workers ≤ old.haul.terms.workers) (is_open : old.haul.closed ≡ false)
    (of_haul : shared.job ≡ old.haul.terms.job) (nobody : old.away ≡ 0) (tickets : shared.tickets.passes ≡ workers)
    (drawn : length new.back.passes.items ≡ shared.tickets.passes → 0 < how_many_heard new.back.passes.items
    → AreAllBelow shared.tickets.count (drawn_by_all new.back.passes.items))
    (not_stopped : new.stopped ≡ None) (not_lacking : new.lacking ≡ None) where
  abbrev passes : List Drawn
  passes = map (λ (s : WorkerResult). s.pass) ran.results

  numbers : map (λ (s : WorkerResult). s.sender.number) ran.results ≡ range_with_len 1 workers
  numbers = all_numbers shared workers old new ran begun as_many listed up silents whole

  no_stop : All (λ (s : WorkerResult). was_stopped s.end ≡ false) ran.results
  no_stop = none_stopped ran.results (sym ran.stopped ∙ not_stopped)

  no_lack : All (λ (s : WorkerResult). lacks_memory s.end ≡ false) ran.results
  no_lack = ran.lacking not_lacking

  long : length ran.results ≡ workers
  long = sym (length-map ran.results (λ (s : WorkerResult). s.sender.number)) ∙ ap length numbers ∙ length-range_with_len 1 workers

  done : dones new.receiver.got ≡ workers
  done =
      let started : how_many_started ran.results ≡ length ran.results =
      count_all (λ (s : WorkerResult). was_started s.end) ran.results (λ k d lt. not_lacking_started (get_or ran.results k d).end (no_lack k d lt)) in
      let waited : dones ran.collected.notes + 0 ≡ old.away + how_many_started ran.results = ran.collected.done in
      ap dones (notes_are shared workers old new ran begun as_many listed up silents whole) ∙ omega (arith, started, waited, long, nobody)

  -- the soup of each report was taken
  reported_taken : All (λ (r : Reported). is_taken new.haul.taken r.number ≡ true) (reports_in new.receiver.got)
  reported_taken =
      let notes = ran.collected.notes in
      let of = crew_part shared workers old new ran begun as_many listed up silents whole (reports_in notes) (part_all (reports_in notes)) in
      let soups = ran.collected.soups (ran.heard not_lacking) in
      let terms = ran.collected.added.terms in
      let inside : All (λ (r : Reported). is_in old.haul.terms.ranges r.number ≡ true) (reports_in notes) = λ k d lt.
      All-contains (λ n. is_in old.haul.terms.ranges n ≡ true) shared.missing.items (get_or (reports_in notes) k d).number
      (subst (All (λ n. is_in old.haul.terms.ranges n ≡ true)) (sym listed) (missing_in_set old.haul.terms.ranges old.haul.taken))
      (of.listed k d lt) in
      subst (λ (l : List (ℕ × Note)). All (λ (r : Reported). is_taken new.haul.taken r.number ≡ true) (reports_in l))
      (sym (notes_are shared workers old new ran begun as_many listed up silents whole))
      (λ k d lt.
      let r = get_or (reports_in notes) k d in
      soups k d lt (ran.collected.added.closed ∙ is_open)
      (subst (λ (t : Terms). is_lawful t r ≡ true) (sym terms)
      (and_from (same_job old.haul.terms.job r.job) (nat_le r.worker old.haul.terms.workers && is_in old.haul.terms.ranges r.number)
      ((jobs_decide old.haul.terms.job r.job).1 (sym (of.of_job k d lt ∙ of_haul)))
      (and_from (nat_le r.worker old.haul.terms.workers) (is_in old.haul.terms.ranges r.number)
      (le-leb r.worker old.haul.terms.workers (let by = (of.by_workers k d lt).1 in omega (arith, by, few)))
      (inside k d lt)))))

  -- each missing number was drawn, so its soup was taken
  missing_taken : All (λ n. is_taken new.haul.taken n ≡ true) (was_missing old.haul)
  missing_taken =
      let T : ℕ → Type 0 = λ n. is_taken new.haul.taken n ≡ true in
      let whole_all = all_whole shared workers old new ran begun as_many listed up silents whole in
      let from = all_senders shared workers old new ran begun as_many listed up silents whole in
      let heard_some : 0 < how_many_heard passes =
      some_heard workers new.receiver.got ran.results numbers ran.left no_stop no_lack whole_all from done some in
      let all_back : length passes ≡ shared.tickets.passes = length-map ran.results (λ (s : WorkerResult). s.pass) ∙ long ∙ sym tickets in
      let all_drawn : AreAllBelow shared.tickets.count (drawn_by_all passes) =
      subst (λ (l : List Drawn). length l ≡ shared.tickets.passes → 0 < how_many_heard l → AreAllBelow shared.tickets.count (drawn_by_all l))
      ran.passes drawn all_back heard_some in
      subst (All T) listed
      (All-from_get_or T shared.missing.items 0 (λ t lt.
      of_all_drawn workers new.receiver.got ran.results numbers ran.left no_stop no_lack whole_all from done T reported_taken t
      (let once : count_by (nat_eq t) (drawn_by_all passes) ≡ once_below shared.tickets.count t = all_drawn t in
      let one : once_below shared.tickets.count t ≡ 1 =
      ap (λ (b : Bool). cond {A = ℕ} b 1 0) (lt-ltb t shared.tickets.count (omega (arith, lt, shared.listed))) in
      omega (arith, once, one))))

  pub nothing_missing : missing_of new.haul.terms.ranges new.haul.taken ≡ []
  nothing_missing =
      let added = ran.collected.added in
      let ranges = old.haul.terms.ranges in
      ap (λ (t : Terms). missing_of t.ranges new.haul.taken) added.terms
      ∙ none_pass (λ n. not (is_taken old.haul.taken n)) (λ n. not (is_taken new.haul.taken n)) (numbers_of ranges)
      (λ n still. was_not (is_taken old.haul.taken n) (is_taken new.haul.taken n)
      (λ before. subst (λ (l : List (ℕ × ℕ)). is_taken l n ≡ true) (sym added.taken)
      (taken_stays old.haul.taken (map entry ran.collected.part) n before)) still)
      (λ k d lt. ap not (missing_taken k d lt))
    where
      was_not : (a b : Bool) → (a ≡ true → b ≡ true) → not b ≡ true → not a ≡ true
      was_not true b says still = absurd (true≢false (sym still ∙ ap not (says refl)))
      was_not false b says still = refl
