-- A worker's notes, one after another, and the worker's result.
use Rattle.std.proofs.Common.{◌≡◌, ◌<◌, ◌++◌, ◌∙◌, ℕ, All, Bool, true, false, List, [], ◌∷◌, ap, append-nil, arith, cond, inl, inr}
use Rattle.std.proofs.Common.{length, map, refl, subst, subst₂, sym}
use Rattle.std.specs.Prelude.{IfSome, Option, None, Some, option_map, slice_index}
use Rattle.std.specs.List.{find}
use Rattle.memory.specs.declared.OutOfMemory.{OutOfMemory}
use Rattle.std.proofs.lemmas.Grind.{flat_map-append}
use Rattle.std.proofs.lemmas.List.{map-append}
use Rattle.std.proofs.lemmas.List.Elements.{All-cons, All-head, All-nil, All-push, All-tail}
use Rattle.std.proofs.lemmas.List.Quantifiers.{all_pairs_push}
use Rattle.survey_core.specs.declared.job.Job.{Job}
use Rattle.haul_core.specs.Reports.{Reported}
use Rattle.handover.specs.Belts.{Presented, silent, with_note}
use Rattle.handover.specs.Tickets.{Drawn, fresh, with_drawn, with_none}
use Rattle.crew.specs.Crews.{is_done, report_in}
use Rattle.crew.specs.CrewSteps.{stopped_with}
use Rattle.crew.specs.Workers.{AreNotDone, HasReported, HasWorked, IsOwnReport, Leaves, Returns, StopsAt, first_stopped, has_begun}
use Rattle.crew.specs.Workers.{lacks_memory, reported, was_started, was_stopped}
use Rattle.crew.specs.declared.note.Note.{Note}
use Rattle.crew.specs.declared.note.Note.TheVariants.{Done, Report}
use Rattle.crew.specs.declared.worker.End.{End}
use Rattle.crew.specs.declared.worker.End.TheVariants.{CalledOff, Drained, Memory, Stopped, Unstarted}
use Rattle.crew.specs.declared.worker.WorkerResult.{WorkerResult}
use Rattle.crew.specs.declared.shared.Shared.{Shared}

-- a worker's result, from its parts
abbrev pub result_of : Drawn → Presented Note → End → WorkerResult
result_of pass sender ended = record { pass = pass; sender = sender; end = ended }

reported_push : (notes : List Note) (note : Note) → reported (notes ++ note ∷ []) ≡ reported notes ++ report_in note
reported_push notes note =
    flat_map-append report_in notes (note ∷ []) ∙ ap (λ (l : List Reported). reported notes ++ l) (append-nil (report_in note))

module _ {lets : ℕ → ℕ → Type 0} (shared : Shared) where
  pub reported_none : (worker : ℕ) → HasReported lets shared [] (silent shared.belt.name worker)
  reported_none worker = record {
    belt = refl;
    ascending = λ i j d lt below. absurd (omega arith);
    below = All-nil (λ t. t < length shared.missing.items);
    numbers = refl;
    own = All-nil (IsOwnReport lets shared.job worker);
  }

  reported_more : (places : List ℕ) (sender : Presented Note) (n : ℕ) (r : Reported) → HasReported lets shared places sender
      → All (λ m. m < n) places → n < length shared.missing.items → IsOwnReport lets shared.job sender.number r
      → r.number ≡ slice_index shared.missing.items n → HasReported lets shared (places ++ n ∷ []) (with_note (Report r) sender)
  reported_more places sender n r h less below own number =
      let missing = shared.missing.items in
      let whole = reported_push sender.notes (Report r) in
      record {
        belt = h.belt;
        ascending = all_pairs_push (λ x y. x < y) places n h.ascending less;
        below = All-push (λ t. t < length missing) places n h.below below;
        numbers =
            ap (λ (l : List Reported). map (λ (s : Reported). s.number) l) whole
            ∙ map-append (λ (s : Reported). s.number) (reported sender.notes) (r ∷ [])
            ∙ (λ i. h.numbers i ++ number i ∷ [])
            ∙ sym (map-append (slice_index missing) places (n ∷ []));
        own = subst (All (IsOwnReport lets shared.job sender.number)) (sym whole)
            (All-push (IsOwnReport lets shared.job sender.number) (reported sender.notes) r h.own own);
      }

  -- `reported_more`, stated for the places `now` after the draw and the sender `next` after it presented the report
  pub reported_next : (places now : List ℕ) (sender next : Presented Note) (n : ℕ) (r : Reported)
      → HasReported lets shared places sender
      → All (λ m. m < n) places → n < length shared.missing.items → IsOwnReport lets shared.job sender.number r
      → r.number ≡ slice_index shared.missing.items n → now ≡ places ++ n ∷ [] → next ≡ with_note (Report r) sender
      → HasReported lets shared now next
  reported_next places now sender next n r h less below own number drawn presented =
      subst (λ (s : Presented Note). HasReported lets shared now s) (sym presented)
      (subst (λ (l : List ℕ). HasReported lets shared l (with_note (Report r) sender)) (sym drawn)
      (reported_more places sender n r h less below own number))

  -- a note "done" adds no report
  reported_done : (places : List ℕ) (sender : Presented Note) (worker : ℕ) → HasReported lets shared places sender
      → HasReported lets shared places (with_note (Done worker) sender)
  reported_done places sender worker h =
      let whole : reported (sender.notes ++ Done worker ∷ []) ≡ reported sender.notes =
      reported_push sender.notes (Done worker) ∙ append-nil (reported sender.notes) in
      record {
        belt = h.belt;
        ascending = h.ascending;
        below = h.below;
        numbers = ap (λ (l : List Reported). map (λ (s : Reported). s.number) l) whole ∙ h.numbers;
        own = subst (All (IsOwnReport lets shared.job sender.number)) (sym whole) h.own;
      }

-- `IsOwnReport` holds for a worker's report for the job if the gate let the worker survey the soup
pub own_report : (lets : ℕ → ℕ → Type 0) {job : Job} {worker number sender : ℕ} (r : Reported) → sender ≡ worker → r.worker ≡ worker
    → r.job ≡ job → r.number ≡ number → lets worker number → IsOwnReport lets job sender r
own_report lets r same mine of is let_in = (mine ∙ sym same, of, subst₂ lets (sym same) (sym is) let_in)

-- notes without a note "done" still have none after one more report
pub not_done_more : (notes now : List Note) (r : Reported) → AreNotDone notes → now ≡ notes ++ Report r ∷ [] → AreNotDone now
not_done_more notes now r none is = subst AreNotDone (sym is) (All-push (λ note. is_done note ≡ false) notes (Report r) none refl)

-- ---- how surveys end

module _ {may_stop lets : ℕ → ℕ → Type 0} (shared : Shared) (worker : ℕ) (old new : Drawn) (sender : Presented Note)
    (series : old.series ≡ shared.tickets) (number : sender.number ≡ worker) (h : HasReported lets shared old.numbers sender) where
  -- `HasWorked` holds for a worker for which no number was left
  pub worked_drained : new ≡ with_none old → HasWorked may_stop lets shared worker Drained new sender
  worked_drained is = record {
    number = number;
    series = ap (λ (p : Drawn). p.series) is ∙ series;
    places = old.numbers;
    reports = h;
    drawn = inl (ap (λ (p : Drawn). p.numbers) is);
    all = λ drained. ap (λ (p : Drawn). p.numbers) is;
    heard = λ drained. ap (λ (p : Drawn). p.heard_none) is;
    stops = λ stopped. absurd (let bad : false ≡ true = ap was_stopped stopped in cc);
    lacks = λ error lacking. absurd (let bad : false ≡ true = ap lacks_memory lacking in cc);
  }

  -- `HasWorked` holds for a worker that drew a number and was then stopped by the gate
  pub worked_stopped : (n : ℕ) → new ≡ with_drawn n old → StopsAt may_stop shared.missing.items worker
      → HasWorked may_stop lets shared worker Stopped new sender
  worked_stopped n is stops = record {
    number = number;
    series = ap (λ (p : Drawn). p.series) is ∙ series;
    places = old.numbers;
    reports = h;
    drawn = inr (n, ap (λ (p : Drawn). p.numbers) is);
    all = λ drained. absurd (let bad : true ≡ false = ap was_stopped drained in cc);
    heard = λ drained. absurd (let bad : true ≡ false = ap was_stopped drained in cc);
    stops = λ stopped. stops;
    lacks = λ error lacking. absurd (let bad : false ≡ true = ap lacks_memory lacking in cc);
  }

  pub worked_lacking : (n : ℕ) (error : OutOfMemory) → new ≡ with_drawn n old → n < length shared.missing.items
      → lets worker (slice_index shared.missing.items n) → HasWorked may_stop lets shared worker (Memory error) new sender
  worked_lacking n error is low let_in = record {
    number = number;
    series = ap (λ (p : Drawn). p.series) is ∙ series;
    places = old.numbers;
    reports = h;
    drawn = inr (n, ap (λ (p : Drawn). p.numbers) is);
    all = λ drained. absurd (let bad : true ≡ false = ap lacks_memory drained in cc);
    heard = λ drained. absurd (let bad : true ≡ false = ap lacks_memory drained in cc);
    stops = λ stopped. absurd (let bad : false ≡ true = ap was_stopped stopped in cc);
    lacks = λ _ lacking. record { place = n; drawn = ap (λ (p : Drawn). p.numbers) is; below = low; let_in = let_in };
  }

-- ---- the result of a worker

begun_started : (ended : End) → has_begun ended ≡ true → was_started ended ≡ true
begun_started Drained h = refl
begun_started Stopped h = refl
begun_started (Memory error) h = refl
begun_started CalledOff h = refl
begun_started (Unstarted error) h = absurd (cc)

module _ {may_stop lets : ℕ → ℕ → Type 0} (shared : Shared) where
  -- `Returns` holds for a worker that was called off
  pub returned_off : (pass : Drawn) (sender : Presented Note) → pass ≡ fresh shared.tickets → sender ≡ silent shared.belt.name sender.number
      → Returns may_stop lets shared sender.number (result_of pass sender CalledOff)
  returned_off pass sender unused still = record {
    left = record {
      worked = record {
        number = refl;
        series = ap (λ (p : Drawn). p.series) unused;
        places = [];
        reports = subst (HasReported lets shared []) (sym still) (reported_none shared sender.number);
        drawn = inl (ap (λ (p : Drawn). p.numbers) unused);
        all = λ drained. ap (λ (p : Drawn). p.numbers) unused;
        heard = λ drained. absurd (let bad : false ≡ true = ap has_begun drained in cc);
        stops = λ stopped. absurd (let bad : false ≡ true = ap has_begun stopped in cc);
        lacks = λ error lacking. absurd (let bad : false ≡ true = ap has_begun lacking in cc);
      };
      done = λ begun. absurd (let bad : false ≡ true = begun in cc);
      silent_if = λ off. ap (λ (s : Presented Note). s.notes) still;
    };
    started = refl;
  }

  -- `Returns` holds for a worker that has worked and then presented a note "done"
  pub returned : (worker : ℕ) (ended : End) (pass : Drawn) (sender now : Presented Note)
      → HasWorked may_stop lets shared worker ended pass sender
      → has_begun ended ≡ true → AreNotDone sender.notes → now ≡ with_note (Done worker) sender
      → Returns may_stop lets shared worker (result_of pass now ended)
  returned worker ended pass sender now h begun none is =
      subst (λ (s : Presented Note). Returns may_stop lets shared worker (result_of pass s ended)) (sym is)
      (record {
        left = record {
          worked = record {
            number = h.number;
            series = h.series;
            places = h.places;
            reports = reported_done shared h.places sender worker h.reports;
            drawn = h.drawn;
            all = h.all;
            heard = h.heard;
            stops = h.stops;
            lacks = h.lacks;
          };
          done = λ _. (sender.notes, none, refl);
          silent_if = λ off. absurd (let bad : true ≡ false = sym begun ∙ ap has_begun off in cc);
        };
        started = begun_started ended begun;
      })

  -- `Leaves` holds for a worker for which no thread could be started, so that its closure ran in the calling thread
  pub unstarted : (worker : ℕ) (worker_result : WorkerResult) (error : OutOfMemory) → Returns may_stop lets shared worker worker_result
      → Leaves may_stop lets shared worker (result_of worker_result.pass worker_result.sender (Unstarted error))
  unstarted worker worker_result error h =
      let worked = h.left.worked in
      record {
        worked = record {
          number = worked.number;
          series = worked.series;
          places = worked.places;
          reports = worked.reports;
          drawn = worked.drawn;
          all = λ drained. absurd (let bad : false ≡ true = ap has_begun drained in cc);
          heard = λ drained. absurd (let bad : false ≡ true = ap has_begun drained in cc);
          stops = λ stopped. absurd (let bad : false ≡ true = ap has_begun stopped in cc);
          lacks = λ _ lacking. absurd (let bad : false ≡ true = ap has_begun lacking in cc);
        };
        done = λ begun. absurd (let bad : false ≡ true = begun in cc);
        silent_if = λ off. absurd (let bad : false ≡ true = ap was_started off in cc);
      }

-- ---- the first worker that was stopped

-- the first stopped worker after one more worker is back
pub stopped_more : (results : List WorkerResult) (worker_result : WorkerResult)
    → first_stopped (results ++ worker_result ∷ []) ≡ stopped_with (first_stopped results) worker_result.sender.number worker_result.end
stopped_more [] worker_result = go (was_stopped worker_result.end)
  where
    go : (b : Bool) → option_map (λ (s : WorkerResult). s.sender.number) (cond b (Some worker_result) None) ≡ cond b (Some worker_result.sender.number) None
    go true = refl
    go false = refl
stopped_more (s ∷ ss) worker_result = go (was_stopped s.end) (stopped_more ss worker_result)
  where
    number : Option WorkerResult → Option ℕ
    number o = option_map (λ (t : WorkerResult). t.sender.number) o

    go : (b : Bool) → first_stopped (ss ++ worker_result ∷ []) ≡ stopped_with (first_stopped ss) worker_result.sender.number worker_result.end
        → number (cond b (Some s) (find (λ t. was_stopped t.end) (ss ++ worker_result ∷ [])))
        ≡ stopped_with (number (cond b (Some s) (find (λ t. was_stopped t.end) ss))) worker_result.sender.number worker_result.end
    go true more = refl
    go false more = more

stopped_is : (ended : End) → was_stopped ended ≡ true → ended ≡ Stopped
stopped_is Drained h = absurd (cc)
stopped_is Stopped h = refl
stopped_is (Memory error) h = absurd (cc)
stopped_is CalledOff h = absurd (cc)
stopped_is (Unstarted error) h = absurd (cc)

-- what holds for all stopped workers holds for the first of them
pub of_first_stopped : (P : ℕ → Type 0) (results : List WorkerResult) → All (λ s. s.end ≡ Stopped → P s.sender.number) results
    → IfSome (first_stopped results) P
of_first_stopped P [] h = tt
of_first_stopped P (s ∷ ss) h =
    go (was_stopped s.end) refl (of_first_stopped P ss (All-tail (λ t. t.end ≡ Stopped → P t.sender.number) s ss h))
  where
    go : (b : Bool) → was_stopped s.end ≡ b → IfSome (first_stopped ss) P
        → IfSome (option_map (λ (t : WorkerResult). t.sender.number) (cond b (Some s) (find (λ t. was_stopped t.end) ss))) P
    go true is more = All-head (λ t. t.end ≡ Stopped → P t.sender.number) s ss h (stopped_is s.end is)
    go false is more = more

-- if there is no first stopped worker, no worker was stopped
pub none_stopped : (results : List WorkerResult) → first_stopped results ≡ None → All (λ s. was_stopped s.end ≡ false) results
none_stopped [] none = All-nil (λ s. was_stopped s.end ≡ false)
none_stopped (s ∷ ss) none = go (was_stopped s.end) refl none
    (λ h. none_stopped ss h)
  where
    go : (b : Bool) → was_stopped s.end ≡ b
        → option_map (λ (t : WorkerResult). t.sender.number) (cond b (Some s) (find (λ t. was_stopped t.end) ss)) ≡ None
        → (first_stopped ss ≡ None → All (λ t. was_stopped t.end ≡ false) ss) → All (λ t. was_stopped t.end ≡ false) (s ∷ ss)
    go true is gone more = absurd (let bad : Some s.sender.number ≡ None = gone in cc)
    go false is gone more = All-cons (λ t. was_stopped t.end ≡ false) s ss is (more gone)
