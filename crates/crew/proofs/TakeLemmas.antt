-- What follows from the workers' notes: which reports the haul has taken, and which reports an observer was handed.
use Rattle.std.proofs.Common.{◌≡◌, ◌≢◌, ◌≤◌, ◌+◌, ◌++◌, ◌∙◌, ℕ, zero, suc, Bool, cond, nat_eq, All, List, [], ◌∷◌, ap, arith, drop, filter, get_or, inl, inr}
use Rattle.std.proofs.Common.{length, map, refl, subst, sym, ⊎_elim}
use Rattle.std.specs.Prelude.{Contains, IfSome, Option, Some, count_by, slice_index, sum_by}
use Rattle.std.specs.List.Sorted.{IsStrictlyIncreasing}
use Rattle.std.specs.List.{IsDistinct, range_with_len}
use Rattle.std.proofs.lemmas.Bool.{eq-eqb, ne_eqb}
use Rattle.std.proofs.lemmas.Grind.{flat_map-append}
use Rattle.std.proofs.lemmas.List.{append-nil, get_or_default, length-map, map-append}
use Rattle.std.proofs.lemmas.List.FromFn.{length-range_with_len}
use Rattle.std.proofs.lemmas.List.Elements.{All-append, All-cons, All-head, All-map, All-nil, All-tail}
use Rattle.std.proofs.lemmas.List.Kept.{AllPairs-from_increasing}
use mathlib.Core.Logic.{dite}
use native.Mathlib.Decide.{dec_le, ℕ_discrete}
use Rattle.atomic_table.specs.Seated.{TableId}
use Rattle.survey_core.specs.declared.job.Job.{Job}
use Rattle.haul_core.specs.Subsequences.{IsSubsequence}
use Rattle.haul_core.specs.Books.{Held, entry}
use Rattle.haul_core.specs.Keeping.{numbers_in}
use Rattle.haul_core.specs.Reports.{IsWorker, Reported}
use Rattle.handover.specs.Belts.{IsWhole, Presented, Received, deaf, notes_of, silent}
use Rattle.handover.specs.Tickets.{Drawn, drawn_by_all}
use Rattle.crew.specs.CrewSteps.{HasRunAll}
use Rattle.crew.specs.Crews.{HasAdded, HasHeard, report_in, reports_in}
use Rattle.crew.specs.Workers.{HasReported, IsOwnReport, Leaves, StopsAt, reported, sender_numbers}
use Rattle.crew.specs.Takes.{HasHeardCrew, HasTaken, taken_by, times_reported, was_missing}
use Rattle.crew.specs.declared.note.Note.{Note}
use Rattle.crew.specs.declared.note.Note.TheVariants.{Done, Report}
use Rattle.crew.specs.declared.worker.WorkerResult.{WorkerResult}
use Rattle.crew.specs.declared.shared.Shared.{Shared}
use Rattle.crew.specs.declared.take.Crew.{Crew}
use Rattle.handover.proofs.BeltLemmas.{notes_first, notes_other}
use Rattle.crew.proofs.CrewLemmas.{added_none}
use Rattle.crew.proofs.ListLemmas.{Rises, all_left, all_part, all_right, all_unmap, at_places, distinct_right, in_range, part_all, range_within}
use Rattle.crew.proofs.ListLemmas.{rises_at, rises_left, rises_part}
use Rattle.crew.proofs.OnceLemmas.{of_reported, of_worker_once, of_workers, on, times_received}
use Rattle.crew.proofs.SenderSums.{up_to, up_to_all, up_to_none}
use Rattle.crew.proofs.WorkerLemmas.{of_first_stopped}

-- ---- what was received from one worker

-- a report by this worker, for this job, on a missing number that the gate let the worker survey
abbrev IsOwn : (ℕ → ℕ → Type 0) → Job → List ℕ → ℕ → Reported → Type 0
IsOwn lets job missing worker r = IsOwnReport lets job worker r × Contains missing r.number

pub record ReceivedOf (lets : ℕ → ℕ → Type 0) (job : Job) (missing : List ℕ) (worker : ℕ) (got : List (ℕ × Note)) : Type 0 where
  pub own : All (IsOwn lets job missing worker) (reported (notes_of worker got))
  pub rises : Rises (map (λ r. r.number) (reported (notes_of worker got)))

both : (lets : ℕ → ℕ → Type 0) (job : Job) (missing : List ℕ) (worker : ℕ) (rs : List Reported) → All (IsOwnReport lets job worker) rs
    → All (Contains missing) (map (λ (r : Reported). r.number) rs) → All (IsOwn lets job missing worker) rs
both lets job missing worker rs own listed =
    let at = all_unmap (Contains missing) (λ (r : Reported). r.number) rs listed in
    λ k d lt. (own k d lt, at k d lt)

received_of : {lets : ℕ → ℕ → Type 0} (shared : Shared) (places : List ℕ) (got : List (ℕ × Note)) (sender : Presented Note)
    → Rises shared.missing.items → HasReported lets shared places sender
    → IsWhole got sender → ReceivedOf lets shared.job shared.missing.items sender.number got
received_of {lets} shared places got sender up h whole =
    let job = shared.job in
    let missing = shared.missing.items in
    let prefix = notes_of sender.number got in
    let remainder = drop (length prefix) sender.notes in
    let parts : reported sender.notes ≡ reported prefix ++ reported remainder =
    ap reported (sym whole) ∙ flat_map-append report_in prefix remainder in
    let number : Reported → ℕ = λ r. r.number in
    let numbers : map number (reported prefix) ++ map number (reported remainder) ≡ map (slice_index missing) places =
    sym (map-append number (reported prefix) (reported remainder)) ∙ ap (λ (l : List Reported). map number l) (sym parts) ∙ h.numbers in
    record {
      own = both lets job missing sender.number (reported prefix)
          (all_left (IsOwnReport lets job sender.number) (reported prefix) (reported remainder)
          (subst (All (IsOwnReport lets job sender.number)) parts h.own))
          (all_left (Contains missing) (map number (reported prefix)) (map number (reported remainder))
          (subst (All (Contains missing)) (sym numbers) (at_places missing places h.below)));
      rises = rises_left (map number (reported prefix)) (map number (reported remainder))
          (subst Rises (sym numbers) (rises_at missing places up h.ascending h.below));
    }

-- what holds for the worker's number in each result holds for all numbers from 1 to `workers`
pub each_worker : (P : ℕ → Type 0) (workers : ℕ) (results : List WorkerResult) → map (λ s. s.sender.number) results ≡ range_with_len 1 workers
    → All (λ s. P s.sender.number) results → (worker : ℕ) → 1 ≤ worker → worker ≤ workers → P worker
each_worker P workers results numbers all worker le ge =
    in_range P 1 workers worker (subst (All P) numbers (All-map P (λ (s : WorkerResult). s.sender.number) results all)) le (omega (arith, ge))

received_each : {may_stop lets : ℕ → ℕ → Type 0} (shared : Shared) (got : List (ℕ × Note)) (results : List WorkerResult) (workers : ℕ)
    → Rises shared.missing.items → map (λ s. s.sender.number) results ≡ range_with_len 1 workers
    → All (λ s. Leaves may_stop lets shared s.sender.number s) results → All (λ s. IsWhole got s.sender) results
    → (worker : ℕ) → 1 ≤ worker → worker ≤ workers → ReceivedOf lets shared.job shared.missing.items worker got
received_each {lets = lets} shared got results workers up numbers left whole =
    each_worker (λ w. ReceivedOf lets shared.job shared.missing.items w got) workers results numbers
    (λ k d lt. let worked = (left k d lt).worked in
    received_of shared worked.places got (get_or results k d).sender up worked.reports (whole k d lt))

-- ---- what was received from all workers

reported_first : (p : ℕ) (note : Note) (more : List (ℕ × Note)) → reported (notes_of p ((p, note) ∷ more)) ≡ report_in note ++ reported (notes_of p more)
reported_first p note more = ap reported (notes_first p p note more refl)

-- what holds for the reports received from each worker holds for each received report and its sender
pub all_own : (Q : ℕ → Reported → Type 0) (got : List (ℕ × Note)) (workers : ℕ) → All (λ m. (1 ≤ m.0) × (m.0 ≤ workers)) got
    → ((w : ℕ) → 1 ≤ w → w ≤ workers → All (Q w) (reported (notes_of w got))) → All (λ m. All (Q m.0) (report_in m.1)) got
all_own Q [] workers few each = All-nil (λ m. All (Q m.0) (report_in m.1))
all_own Q (m ∷ ms) workers few each =
    let here = All-head (λ (n : ℕ × Note). (1 ≤ n.0) × (n.0 ≤ workers)) m ms few in
    let first : reported (notes_of m.0 (m ∷ ms)) ≡ report_in m.1 ++ reported (notes_of m.0 ms) = reported_first m.0 m.1 ms in
    All-cons (λ (n : ℕ × Note). All (Q n.0) (report_in n.1)) m ms
    (all_left (Q m.0) (report_in m.1) (reported (notes_of m.0 ms)) (subst (All (Q m.0)) first (each m.0 here.0 here.1)))
    (all_own Q ms workers (All-tail (λ (n : ℕ × Note). (1 ≤ n.0) × (n.0 ≤ workers)) m ms few)
    (λ w le ge. dite (ℕ_discrete w m.0)
    (λ same. all_right (Q w) (report_in m.1) (reported (notes_of w ms))
    (subst (All (Q w)) (ap reported (notes_first m.0 w m.1 ms same)) (each w le ge)))
    (λ apart. subst (All (Q w)) (ap reported (notes_other m.0 w m.1 ms apart)) (each w le ge))))

pub all_reports : (Q : ℕ → Reported → Type 0) (P : Reported → Type 0) (got : List (ℕ × Note)) → ((m : ℕ × Note) → All (Q m.0) (report_in m.1)
    → All P (report_in m.1))
    → All (λ m. All (Q m.0) (report_in m.1)) got → All P (reports_in got)
all_reports Q P [] turn all = All-nil P
all_reports Q P (m ∷ ms) turn all =
    All-append P (report_in m.1) (reports_in ms) (turn m (All-head (λ (n : ℕ × Note). All (Q n.0) (report_in n.1)) m ms all))
    (all_reports Q P ms turn (All-tail (λ (n : ℕ × Note). All (Q n.0) (report_in n.1)) m ms all))

by_yes : (w : ℕ) (t : ℕ × ℕ) (ts : List (ℕ × ℕ)) → w ≡ t.0 → taken_by w (t ∷ ts) ≡ t.1 ∷ taken_by w ts
by_yes w t ts e =
    ap (λ (b : Bool). map (λ (s : ℕ × ℕ). s.1) (cond b (t ∷ filter (λ (s : ℕ × ℕ). nat_eq w s.0) ts) (filter (λ (s : ℕ × ℕ). nat_eq w s.0) ts)))
    (eq-eqb w t.0 e)

by_no : (w : ℕ) (t : ℕ × ℕ) (ts : List (ℕ × ℕ)) → w ≢ t.0 → taken_by w (t ∷ ts) ≡ taken_by w ts
by_no w t ts e =
    ap (λ (b : Bool). map (λ (s : ℕ × ℕ). s.1) (cond b (t ∷ filter (λ (s : ℕ × ℕ). nat_eq w s.0) ts) (filter (λ (s : ℕ × ℕ). nat_eq w s.0) ts)))
    (ne_eqb w t.0 e)

taken_part : (w : ℕ) (part rs : List Reported) → IsSubsequence part rs
    → IsSubsequence (taken_by w (map entry part)) (taken_by w (map entry rs))
taken_part w part [] p = ap (λ (l : List Reported). taken_by w (map entry l)) p
taken_part w part (r ∷ rs) p =
    dite (ℕ_discrete w r.worker)
    (λ same. subst (IsSubsequence (taken_by w (map entry part))) (sym (by_yes w (entry r) (map entry rs) same))
    (⊎_elim (λ (q : IsSubsequence part rs). inl (taken_part w part rs q))
    (λ (q : (remainder : List Reported) × (part ≡ r ∷ remainder) × IsSubsequence remainder rs).
    inr (
      taken_by w (map entry q.0),
      ap (λ (l : List Reported). taken_by w (map entry l)) q.1 ∙ by_yes w (entry r) (map entry q.0) same,
      taken_part w q.0 rs q.2,
    )) p))
    (λ apart. subst (IsSubsequence (taken_by w (map entry part))) (sym (by_no w (entry r) (map entry rs) apart))
    (⊎_elim (λ (q : IsSubsequence part rs). taken_part w part rs q)
    (λ (q : (remainder : List Reported) × (part ≡ r ∷ remainder) × IsSubsequence remainder rs).
    subst (λ (l : List ℕ). IsSubsequence l (taken_by w (map entry rs)))
    (sym (ap (λ (l : List Reported). taken_by w (map entry l)) q.1 ∙ by_no w (entry r) (map entry q.0) apart)) (taken_part w q.0 rs q.2)) p))

-- if all received reports are taken, the numbers taken from a worker are those of the reports received from it
taken_all : (lets : ℕ → ℕ → Type 0) (job : Job) (missing : List ℕ) (w : ℕ) (got : List (ℕ × Note))
    → All (λ m. All (IsOwn lets job missing m.0) (report_in m.1)) got
    → taken_by w (map entry (reports_in got)) ≡ map (λ r. r.number) (reported (notes_of w got))
taken_all lets job missing w [] own = refl
taken_all lets job missing w ((p, Done worker) ∷ ms) own =
    let more = taken_all lets job missing w ms (All-tail (λ (m : ℕ × Note). All (IsOwn lets job missing m.0) (report_in m.1)) (p, Done worker) ms own) in
    dite (ℕ_discrete w p)
    (λ same. more ∙ sym (ap (λ (l : List Note). map (λ (r : Reported). r.number) (reported l)) (notes_first p w (Done worker) ms same)))
    (λ apart. more ∙ sym (ap (λ (l : List Note). map (λ (r : Reported). r.number) (reported l)) (notes_other p w (Done worker) ms apart)))
taken_all lets job missing w ((p, Report r) ∷ ms) own =
    let more = taken_all lets job missing w ms (All-tail (λ (m : ℕ × Note). All (IsOwn lets job missing m.0) (report_in m.1)) (p, Report r) ms own) in
    let mine : r.worker ≡ p =
    (All-head (IsOwn lets job missing p) r [] (All-head (λ (m : ℕ × Note). All (IsOwn lets job missing m.0) (report_in m.1)) (p, Report r) ms own)).0.0 in
    dite (ℕ_discrete w p)
    (λ same. by_yes w (entry r) (map entry (reports_in ms)) (same ∙ sym mine) ∙ ap (λ (l : List ℕ). r.number ∷ l) more
    ∙ sym (ap (λ (l : List Note). map (λ (s : Reported). s.number) (reported l)) (notes_first p w (Report r) ms same)))
    (λ apart. by_no w (entry r) (map entry (reports_in ms)) (λ e. apart (e ∙ mine)) ∙ more
    ∙ sym (ap (λ (l : List Note). map (λ (s : Reported). s.number) (reported l)) (notes_other p w (Report r) ms apart)))

-- ---- the whole crew

-- Reports by the workers of a crew for its job, on missing numbers that the gate let each worker survey. The numbers of
-- each worker ascend.
pub record OfCrew (lets : ℕ → ℕ → Type 0) (workers : ℕ) (job : Job) (missing : List ℕ) (part : List Reported) : Type 0 where
  pub of_job : All (λ r. r.job ≡ job) part
  pub by_workers : All (λ r. (1 ≤ r.worker) × (r.worker ≤ workers)) part
  pub listed : All (λ r. Contains missing r.number) part
  pub let_in : All (λ r. lets r.worker r.number) part
  pub rises : (worker : ℕ) → 1 ≤ worker → worker ≤ workers → Rises (taken_by worker (map entry part))

of_crew : {may_stop lets : ℕ → ℕ → Type 0} (shared : Shared) (workers : ℕ) (got : List (ℕ × Note)) (results : List WorkerResult)
    (part : List Reported)
    → Rises shared.missing.items → map (λ s. s.sender.number) results ≡ range_with_len 1 workers
    → All (λ s. Leaves may_stop lets shared s.sender.number s) results → All (λ s. IsWhole got s.sender) results
    → All (λ m. (1 ≤ m.0) × (m.0 ≤ workers)) got → IsSubsequence part (reports_in got)
    → OfCrew lets workers shared.job shared.missing.items part
of_crew {lets = lets} shared workers got results part up numbers left whole few is =
    let job = shared.job in
    let missing = shared.missing.items in
    let each = received_each shared got results workers up numbers left whole in
    let own : All (λ (m : ℕ × Note). All (IsOwn lets job missing m.0) (report_in m.1)) got =
    all_own (IsOwn lets job missing) got workers few (λ w le ge. (each w le ge).own) in
    record {
      by_workers = all_part (λ (r : Reported). (1 ≤ r.worker) × (r.worker ≤ workers)) part (reports_in got) is (workers_in got few own);
      listed = all_part (λ (r : Reported). Contains missing r.number) part (reports_in got) is
          (all_reports (IsOwn lets job missing) (λ (r : Reported). Contains missing r.number) got (λ m all k d lt. (all k d lt).1) own);
      let_in = all_part (λ (r : Reported). lets r.worker r.number) part (reports_in got) is
          (all_reports (IsOwn lets job missing) (λ (r : Reported). lets r.worker r.number) got (λ m all k d lt.
          subst (λ (w : ℕ). lets w (get_or (report_in m.1) k d).number) (sym (all k d lt).0.0) (all k d lt).0.2) own);
      of_job = all_part (λ (r : Reported). r.job ≡ job) part (reports_in got) is
          (all_reports (IsOwn lets job missing) (λ (r : Reported). r.job ≡ job) got (λ m all k d lt. (all k d lt).0.1) own);
      rises = λ w le ge.
          rises_part (taken_by w (map entry part)) (taken_by w (map entry (reports_in got))) (taken_part w part (reports_in got) is)
          (subst Rises (sym (taken_all lets job missing w got own)) (each w le ge).rises);
    }
  where
    workers_in : (got : List (ℕ × Note)) → All (λ m. (1 ≤ m.0) × (m.0 ≤ workers)) got
        → All (λ (m : ℕ × Note). All (IsOwn lets shared.job shared.missing.items m.0) (report_in m.1)) got
        → All (λ (r : Reported). (1 ≤ r.worker) × (r.worker ≤ workers)) (reports_in got)
    workers_in [] few own = All-nil (λ (r : Reported). (1 ≤ r.worker) × (r.worker ≤ workers))
    workers_in (m ∷ ms) few own =
        let P : Reported → Type 0 = λ r. (1 ≤ r.worker) × (r.worker ≤ workers) in
        let here = All-head (λ (n : ℕ × Note). (1 ≤ n.0) × (n.0 ≤ workers)) m ms few in
        let mine = All-head (λ (n : ℕ × Note). All (IsOwn lets shared.job shared.missing.items n.0) (report_in n.1)) m ms own in
        All-append P (report_in m.1) (reports_in ms)
        (λ k d lt. let e = (mine k d lt).0.0 in (omega (arith, here.0, e), omega (arith, here.1, e)))
        (workers_in ms (All-tail (λ (n : ℕ × Note). (1 ≤ n.0) × (n.0 ≤ workers)) m ms few)
        (All-tail (λ (n : ℕ × Note). All (IsOwn lets shared.job shared.missing.items n.0) (report_in n.1)) m ms own))

distinct_none : IsDistinct nat_eq []
unfolding IsDistinct
distinct_none = tt

pub taken_none : (lets : ℕ → ℕ → Type 0) (workers : ℕ) (held : Held) → HasTaken lets workers held held
taken_none lets workers held = record {
  offers = [];
  added = added_none held;
  job = All-nil (λ (r : Reported). r.job ≡ held.terms.job);
  by_workers = All-nil (λ (r : Reported). (1 ≤ r.worker) × (r.worker ≤ workers));
  missing = All-nil (λ (r : Reported). Contains (was_missing held) r.number);
  let_in = All-nil (λ (r : Reported). lets r.worker r.number);
  once = distinct_none;
  in_order = λ w le ge i j d lt small. absurd (omega arith);
}

-- `HasHeardCrew` holds if the observer was handed nothing and the haul has taken nothing
pub crew_heard_none : (lets : ℕ → ℕ → Type 0) (workers : ℕ) (held : Held) (hears : List Reported → Type 0) → hears []
    → HasHeardCrew lets workers held held hears
crew_heard_none lets workers held hears nothing = record {
  reports = [];
  heard = nothing;
  job = All-nil (λ (r : Reported). r.job ≡ held.terms.job);
  by_workers = All-nil (λ (r : Reported). (1 ≤ r.worker) × (r.worker ≤ workers));
  missing = All-nil (λ (r : Reported). Contains (was_missing held) r.number);
  let_in = All-nil (λ (r : Reported). lets r.worker r.number);
  once = λ n. let none : times_reported n [] ≡ 0 = refl in omega arith;
  offers = [];
  some = refl;
  added = added_none held;
}

-- `HasHeardCrew` still holds if the observer was handed nothing before the crew ran and nothing after it
pub heard_between : {lets : ℕ → ℕ → Type 0} {workers : ℕ} {old new : Held} {O : Type 0} (hears : O → List Reported → O → Type 0)
    → ((s m t : O) (xs ys : List Reported) → hears s xs m → hears m ys t → hears s (xs ++ ys) t) → (begun first last ended : O)
    → hears begun [] first → HasHeardCrew lets workers old new (λ reports. hears first reports last) → hears last [] ended
    → HasHeardCrew lets workers old new (λ reports. hears begun reports ended)
heard_between hears hears_more begun first last ended before h after = record {
  reports = h.reports;
  heard = subst (λ (l : List Reported). hears begun l ended) (append-nil h.reports)
      (hears_more begun last ended h.reports [] (hears_more begun first last [] h.reports before h.heard) after);
  job = h.job;
  by_workers = h.by_workers;
  missing = h.missing;
  let_in = h.let_in;
  once = h.once;
  offers = h.offers;
  some = h.some;
  added = h.added;
}

-- ---- what a crew begins with

pub all_silent : (name : TableId) (numbers : List ℕ) → All (λ s. s ≡ silent {N = Note} name s.number) (map (silent {N = Note} name) numbers)
all_silent name [] = All-nil (λ s. s ≡ silent {N = Note} name s.number)
all_silent name (n ∷ ns) =
    All-cons (λ (s : Presented Note). s ≡ silent {N = Note} name s.number) (silent {N = Note} name n) (map (silent {N =
    Note} name) ns) refl (all_silent name ns)

pub all_workers : (name : TableId) (first n : ℕ) → 1 ≤ first → first + n ≤ 17
    → All (λ s. IsWorker s.number) (map (silent {N = Note} name) (range_with_len first n))
all_workers name first zero some few = All-nil (λ (s : Presented Note). IsWorker s.number)
all_workers name first (suc n) some few =
    All-cons (λ (s : Presented Note). IsWorker s.number) (silent {N = Note} name first) (map (silent {N = Note} name) (range_with_len (first + 1) n))
    (record { least = some; most = omega arith }) (all_workers name (first + 1) n (omega arith) (omega arith))

pub silent_numbers : (name : TableId) (numbers : List ℕ) → sender_numbers (map (silent {N = Note} name) numbers) ≡ numbers
silent_numbers name [] = refl
silent_numbers name (n ∷ ns) = ap (λ (l : List ℕ). n ∷ l) (silent_numbers name ns)

pub silent_length : (name : TableId) (workers : ℕ) → length (map (silent {N = Note} name) (range_with_len 1 workers)) ≡ workers
silent_length name workers = length-map (range_with_len 1 workers) (silent {N = Note} name) ∙ length-range_with_len 1 workers

-- ---- a crew that has ended

module _ {may_stop lets : ℕ → ℕ → Type 0} {shared : Shared} {old new : Crew} (ran : HasRunAll may_stop lets shared old new) where
  pub belts_of : All (λ (s : Presented Note). s.belt ≡ shared.belt.name) new.back.senders.items
  belts_of =
      subst (All (λ (s : Presented Note). s.belt ≡ shared.belt.name)) (sym ran.senders)
      (All-map (λ (s : Presented Note). s.belt ≡ shared.belt.name) (λ (s : WorkerResult). s.sender) ran.results
      (λ k d lt. (ran.left k d lt).worked.reports.belt))

  pub series_of_all : All (λ (p : Drawn). p.series ≡ shared.tickets) new.back.passes.items
  series_of_all =
      subst (All (λ (p : Drawn). p.series ≡ shared.tickets)) (sym ran.passes)
      (All-map (λ (p : Drawn). p.series ≡ shared.tickets) (λ (s : WorkerResult). s.pass) ran.results
      (λ k d lt. (ran.left k d lt).worked.series))

-- a crew has ended, and all its workers are back
module _ {may_stop lets : ℕ → ℕ → Type 0} (shared : Shared) (workers : ℕ) (old new : Crew) (ran : HasRunAll may_stop lets shared old new)
    (begun : old.receiver ≡ deaf shared.belt) (as_many : shared.belt.workers ≡ workers)
    (listed : shared.missing.items ≡ was_missing old.haul) (up : IsStrictlyIncreasing shared.missing.items)
    (silents : old.endpoints.senders.items ≡ map (silent shared.belt.name) (range_with_len 1 workers))
    (whole : All (IsWhole new.receiver.got) new.back.senders.items) where
  pub all_numbers : map (λ (s : WorkerResult). s.sender.number) ran.results ≡ range_with_len 1 workers
  all_numbers = ran.numbers ∙ ap sender_numbers silents ∙ silent_numbers shared.belt.name (range_with_len 1 workers)

  pub all_whole : All (λ (s : WorkerResult). IsWhole new.receiver.got s.sender) ran.results
  all_whole = all_unmap (IsWhole new.receiver.got) (λ (s : WorkerResult). s.sender) ran.results (subst (All (IsWhole new.receiver.got)) ran.senders whole)

  pub notes_are : new.receiver.got ≡ ran.collected.notes
  notes_are = ran.collected.got ∙ ap (λ (r : Received Note). r.got ++ ran.collected.notes) begun

  pub all_senders : All (λ (m : ℕ × Note). (1 ≤ m.0) × (m.0 ≤ workers)) new.receiver.got
  all_senders =
      let bound : old.receiver.belt.workers ≡ workers = ap (λ (r : Received Note). r.belt.workers) begun ∙ as_many in
      subst (All (λ (m : ℕ × Note). (1 ≤ m.0) × (m.0 ≤ workers))) (sym notes_are)
      (λ k d lt. let s = ran.collected.senders k d lt in (s.0, omega (arith, s.1, bound)))

  pub crew_part : (part : List Reported) → IsSubsequence part (reports_in ran.collected.notes)
      → OfCrew lets workers shared.job shared.missing.items part
  crew_part part is =
      of_crew shared workers new.receiver.got ran.results part (AllPairs-from_increasing shared.missing.items up)
      all_numbers ran.left all_whole all_senders
      (subst (λ (l : List (ℕ × Note)). IsSubsequence part (reports_in l)) (sym notes_are) is)

  pub crew_has_taken : (held : Held) → held ≡ new.haul → IsDistinct nat_eq (numbers_in new.haul.taken) → shared.job ≡ old.haul.terms.job
      → HasTaken lets workers old.haul held
  crew_has_taken held same distinct of_haul =
      let c = ran.collected in
      let of = crew_part c.part c.some in
      subst (HasTaken lets workers old.haul) (sym same) (record {
        offers = c.part;
        added = c.added;
        job = subst (λ (j : Job). All (λ (r : Reported). r.job ≡ j) c.part) of_haul of.of_job;
        by_workers = of.by_workers;
        missing = subst (λ (l : List ℕ). All (λ (r : Reported). Contains l r.number) c.part) listed of.listed;
        let_in = of.let_in;
        once = distinct_right (numbers_in old.haul.taken) (numbers_in (map entry c.part))
            (subst (IsDistinct nat_eq)
            (ap numbers_in c.added.taken ∙ map-append (λ (t : ℕ × ℕ). t.1) old.haul.taken (map entry c.part)) distinct);
        in_order = of.rises;
      })

  -- if no place is drawn twice, no soup is reported twice
  crew_once : ((t : ℕ) → count_by (nat_eq t) (drawn_by_all new.back.passes.items) ≤ 1) → (n : ℕ)
      → times_reported n (reports_in ran.collected.notes) ≤ 1
  crew_once drawn n =
      elim (dec_le 1 (times_reported n reports)) [
        | yes some ↦ at_place (of_reported (Contains missing) n reports (crew_part reports (part_all reports)).listed some)
        | no none ↦ omega (arith, none)
      ]
    where
      missing : List ℕ
      missing = shared.missing.items

      rise : Rises missing
      rise = AllPairs-from_increasing missing up

      reports : List Reported
      reports = reports_in ran.collected.notes

      at_place : Contains missing n → times_reported n reports ≤ 1
      at_place at =
          let is : slice_index missing at.0 ≡ n = get_or_default missing at.0 0 n at.1 ∙ at.2 in
          let each : All (λ (s : WorkerResult). sum_by (on (slice_index missing at.0)) (notes_of s.sender.number new.receiver.got)
          ≤ count_by (nat_eq at.0) s.pass.numbers) ran.results =
          λ k d lt. of_worker_once shared new.receiver.got rise at.0 at.1 (get_or ran.results k d) (ran.left k d lt).worked (all_whole k d lt) in
          let long : length ran.results ≡ workers =
          sym (length-map ran.results (λ (s : WorkerResult). s.sender.number)) ∙ ap length all_numbers ∙ length-range_with_len 1 workers in
          let numbers : map (λ (s : WorkerResult). s.sender.number) ran.results ≡ range_with_len (0 + 1) (length ran.results) =
          all_numbers ∙ ap (range_with_len 1) (sym long) in
          let drew : ℕ = count_by (nat_eq at.0) (drawn_by_all new.back.passes.items) in
          let passes : drew ≡ count_by (nat_eq at.0) (drawn_by_all (map (λ (s : WorkerResult). s.pass) ran.results)) =
          ap (λ (l : List Drawn). count_by (nat_eq at.0) (drawn_by_all l)) ran.passes in
          let all : up_to (on (slice_index missing at.0)) (0 + length ran.results) new.receiver.got
          ≤ up_to (on (slice_index missing at.0)) 0 new.receiver.got + drew =
          subst (λ (m : ℕ). up_to (on (slice_index missing at.0)) (0 + length ran.results) new.receiver.got
          ≤ up_to (on (slice_index missing at.0)) 0 new.receiver.got + m) (sym passes)
          (of_workers (on (slice_index missing at.0)) at.0 new.receiver.got ran.results 0 numbers each) in
          let none = up_to_none (on (slice_index missing at.0)) new.receiver.got (λ k d lt. (all_senders k d lt).0) in
          let whole = up_to_all (on (slice_index missing at.0)) workers new.receiver.got (λ k d lt. (all_senders k d lt).1)
          ∙ times_received (slice_index missing at.0) new.receiver.got in
          let all_of : 0 + length ran.results ≡ workers = omega (arith, long) in
          let last = ap (λ (w : ℕ). up_to (on (slice_index missing at.0)) w new.receiver.got) all_of in
          let same = ap (λ (m : ℕ). times_reported m (reports_in new.receiver.got)) is
          ∙ ap (λ (l : List (ℕ × Note)). times_reported n (reports_in l)) notes_are in
          let few : drew ≤ 1 = drawn at.0 in
          omega (arith, all, none, whole, last, same, few)

  -- `HasHeardCrew` holds if an observer was handed the reports among the received notes
  pub crew_heard : (held : Held) → held ≡ new.haul → shared.job ≡ old.haul.terms.job
      → ((t : ℕ) → count_by (nat_eq t) (drawn_by_all new.back.passes.items) ≤ 1) → (hears : List Reported → Type 0)
      → HasHeard old.receiver new.receiver hears → HasHeardCrew lets workers old.haul held hears
  crew_heard held same of_haul drawn hears h =
      let c = ran.collected in
      let reports = reports_in c.notes in
      let of = crew_part reports (part_all reports) in
      let notes : h.notes ≡ c.notes = sym (h.got ∙ ap (λ (r : Received Note). r.got ++ h.notes) begun) ∙ notes_are in
      record {
        reports = reports;
        heard = subst (λ (l : List (ℕ × Note)). hears (reports_in l)) notes h.heard;
        job = subst (λ (j : Job). All (λ (r : Reported). r.job ≡ j) reports) of_haul of.of_job;
        by_workers = of.by_workers;
        missing = subst (λ (l : List ℕ). All (λ (r : Reported). Contains l r.number) reports) listed of.listed;
        let_in = of.let_in;
        once = crew_once drawn;
        offers = c.part;
        some = c.some;
        added = subst (HasAdded c.part old.haul) (sym same) c.added;
      }

  -- the worker that was stopped is one of the crew
  pub crew_within : (worker : ℕ) → new.stopped ≡ Some worker → (1 ≤ worker) × (worker ≤ workers)
  crew_within worker is =
      let P : ℕ → Type 0 = λ w. (1 ≤ w) × (w ≤ workers) in
      let all : All (λ (s : WorkerResult). P s.sender.number) ran.results =
      all_unmap P (λ (s : WorkerResult). s.sender.number) ran.results
      (subst (All P) (sym all_numbers) (range_within 1 workers workers (omega arith))) in
      subst (λ (o : Option ℕ). IfSome o P) (sym ran.stopped ∙ is) (of_first_stopped P ran.results (λ k d lt stopped. all k d lt))

  -- if a worker was stopped, the gate may stop it at some missing number
  pub crew_stops : (worker : ℕ) → new.stopped ≡ Some worker → StopsAt may_stop (was_missing old.haul) worker
  crew_stops worker is =
      let P : ℕ → Type 0 = StopsAt may_stop (was_missing old.haul) in
      subst (λ (o : Option ℕ). IfSome o P) (sym ran.stopped ∙ is)
      (of_first_stopped P ran.results (λ k d lt stopped.
      subst (λ (l : List ℕ). StopsAt may_stop l (get_or ran.results k d).sender.number) listed ((ran.left k d lt).worked.stops stopped)))
