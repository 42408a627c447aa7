-- Facts about a collector, which receives notes one after another and offers the reports in them to a haul.
use Rattle.std.proofs.Common.{◌≡◌, ◌<◌, ◌≤◌, ◌+◌, ◌-◌, ◌++◌, ◌⊎◌, ◌∙◌, ℕ, Bool, cond, true, false, true≢false, All, List, [], ◌∷◌, ap}
use Rattle.std.proofs.Common.{append-nil, append_assoc, arith}
use Rattle.std.proofs.Common.{◌&&◌, ◌||◌, ◌≢◌, inl, inr, if◌then◌else◌, map, nat_eq, nat_le, nat_lt, not, refl, subst, sym, ⊎_elim}
use Rattle.std.specs.Prelude.{None, Option, Some}
use Rattle.std.specs.List.{list_any}
use Rattle.std.proofs.lemmas.Grind.{flat_map-append}
use Rattle.std.proofs.lemmas.List.{map-append}
use Rattle.std.proofs.lemmas.List.Elements.{All-append, All-cons, All-nil, All-push, All-weaker}
use Rattle.std.proofs.lemmas.Bool.{and_parts, eq-eqb, le-ltb, leb-true, or_left, or_right}
use Rattle.std.proofs.lemmas.List.Folds.{list_any-append}
use Rattle.std.proofs.lemmas.List.Sums.{sum_by_push}
use native.Mathlib.Decide.{dec_le}
use Rattle.haul_core.specs.Books.{Held, StandsFor, Terms, entry, eligible, is_lawful}
use Rattle.haul_core.specs.Keeping.{numbers_in}
use Rattle.haul_core.specs.Missing.{is_taken}
use Rattle.haul_core.specs.Refusals.{IsReply, double, refusal_of}
use Rattle.haul_core.specs.Replies.{refusal_at, worker_in}
use Rattle.haul_core.specs.declared.book.refused.OfferError.{OfferError}
use Rattle.haul_core.specs.declared.book.refused.OfferError.TheVariants.{Closed, Memory, OtherJob, OutOfRange, UnknownWorker}
use Rattle.memory.specs.Witness.{out_of_memory}
use Rattle.ranges.specs.Ranges.{is_in}
use Rattle.survey_core.specs.Jobs.{same_job}
use Rattle.haul_core.specs.Subsequences.{IsSubsequence}
use Rattle.haul_core.specs.Reports.{Reported}
use Rattle.haul_core.specs.declared.book.arrival.Arrival.{Arrival}
use Rattle.haul_core.specs.declared.book.arrival.Arrival.TheVariants.{Offer}
use Rattle.handover.specs.Belts.{GotOne, BeltId, Received}
use Rattle.crew.specs.Crews.{Collected, Collector, HasAdded, HasComeAll, HasHeard, HasLost, collector_with, dones, is_done}
use Rattle.crew.specs.Crews.{HasSoupOf, report_in, reports_in}
use Rattle.crew.specs.declared.note.Note.{Note}
use Rattle.crew.specs.declared.note.Note.TheVariants.{Done, Report}
use Rattle.crew.proofs.ListLemmas.{part_all, part_append, part_none}

-- ---- notes

reports_push : (notes : List (ℕ × Note)) (m : ℕ × Note) → reports_in (notes ++ m ∷ []) ≡ reports_in notes ++ report_in m.1
reports_push notes m =
    flat_map-append (λ (n : ℕ × Note). report_in n.1) notes (m ∷ []) ∙ ap (λ (l : List Reported). reports_in notes ++ l) (append-nil (report_in m.1))

dones_push : (notes : List (ℕ × Note)) (m : ℕ × Note) → dones (notes ++ m ∷ []) ≡ dones notes + cond {A = ℕ} (is_done m.1) 1 0
dones_push notes m = sum_by_push (λ (n : ℕ × Note). cond {A = ℕ} (is_done n.1) 1 0) notes m

-- ---- hauls that have taken reports

pub added_none : (held : Held) → HasAdded [] held held
added_none held = record {
  terms = refl;
  closed = refl;
  taken = sym (append-nil held.taken);
  stands = λ arrivals s. subst (λ (l : List Arrival). StandsFor l held) (sym (append-nil arrivals)) s;
}

come_more : (xs ys : List Reported) (old mid new : Held) → HasComeAll xs old mid → HasComeAll ys mid new → HasComeAll (xs ++ ys) old new
come_more xs ys old mid new first more arrivals s =
    subst (λ (l : List Arrival). StandsFor l new)
    (append_assoc arrivals (map Offer xs) (map Offer ys) ∙ ap (λ (l : List Arrival). arrivals ++ l) (sym (map-append Offer xs ys)))
    (more (arrivals ++ map Offer xs) (first arrivals s))

added_more : (xs ys : List Reported) (old mid new : Held) → HasAdded xs old mid → HasAdded ys mid new → HasAdded (xs ++ ys) old new
added_more xs ys old mid new first more = record {
  terms = more.terms ∙ first.terms;
  closed = more.closed ∙ first.closed;
  taken = more.taken ∙ ap (λ (l : List (ℕ × ℕ)). l ++ map entry ys) first.taken ∙ append_assoc old.taken (map entry xs) (map entry ys)
      ∙ ap (λ (l : List (ℕ × ℕ)). old.taken ++ l) (sym (map-append entry xs ys));
  stands = come_more xs ys old mid new first.stands more.stands;
}

-- ---- soups that were taken

-- a soup that was taken stays taken
pub taken_stays : (old more : List (ℕ × ℕ)) (n : ℕ) → is_taken old n ≡ true → is_taken (old ++ more) n ≡ true
taken_stays old more n is =
    ap (list_any (nat_eq n)) (map-append (λ (t : ℕ × ℕ). t.1) old more)
    ∙ list_any-append (nat_eq n) (numbers_in old) (numbers_in more)
    ∙ or_left (is_taken old n) (is_taken more n) is

pub taken_last : (old : List (ℕ × ℕ)) (worker n : ℕ) → is_taken (old ++ (worker, n) ∷ []) n ≡ true
taken_last old worker n =
    ap (list_any (nat_eq n)) (map-append (λ (t : ℕ × ℕ). t.1) old ((worker, n) ∷ []))
    ∙ list_any-append (nat_eq n) (numbers_in old) (n ∷ [])
    ∙ or_right (is_taken old n) (list_any (nat_eq n) (n ∷ [])) (or_left (nat_eq n n) false (eq-eqb n n refl))

soups_stay : (reports : List Reported) (old new : Held) (rs : List Reported) → HasAdded reports old new → All (HasSoupOf old) rs
    → All (HasSoupOf new) rs
soups_stay reports old new rs added h =
    All-weaker (HasSoupOf old) (HasSoupOf new) (λ r has is_open lawful.
    subst (λ (l : List (ℕ × ℕ)). is_taken l r.number ≡ true) (sym added.taken)
    (taken_stays old.taken (map entry reports) r.number
    (has (sym added.closed ∙ is_open) (subst (λ (t : Terms). is_lawful t r ≡ true) added.terms lawful)))) rs h

soups_after : (r : Reported) (old new : Held) (rs : List Reported) → (new ≡ old) ⊎ HasAdded (r ∷ []) old new → All (HasSoupOf old) rs
    → All (HasSoupOf new) rs
soups_after r old new rs added h =
    ⊎_elim (λ (same : new ≡ old). subst (λ (held : Held). All (HasSoupOf held) rs) (sym same) h)
    (λ (more : HasAdded (r ∷ []) old new). soups_stay (r ∷ []) old new rs more h) added

-- if a haul refuses a report, and each test except the last is passed, the report's soup was taken from some worker
double_of : (closed job over inside : Bool) (worker : Option ℕ) (reason : OfferError) → closed ≡ false → job ≡ true → over ≡ false
    → inside ≡ true
    → Some reason
    ≡ (if closed then Some Closed else if not job then Some OtherJob else if over then Some UnknownWorker
    else if not inside then Some OutOfRange else double worker)
    → (w : ℕ) × (worker ≡ Some w)
double_of closed job over inside None reason c j o i is =
    let bad : Some reason ≡ None =
    is
    ∙ (λ k. if c k then Some Closed else if not (j k) then Some OtherJob else if o k then Some UnknownWorker
    else if not (i k) then Some OutOfRange else None) in
    absurd (cc)
double_of closed job over inside (Some w) reason c j o i is = (w, refl)

-- if `worker_in` finds the worker that a soup was taken from, `is_taken` is true for the soup
of_worker_taken : (taken : List (ℕ × ℕ)) (n w : ℕ) → worker_in n taken ≡ Some w → is_taken taken n ≡ true
of_worker_taken [] n w is = absurd (let bad : None ≡ Some w = is in cc)
of_worker_taken (t ∷ ts) n w is = go (nat_eq n t.1) is (λ h. of_worker_taken ts n w h)
  where
    go : (b : Bool) → cond b (Some t.0) (worker_in n ts) ≡ Some w → (worker_in n ts ≡ Some w → is_taken ts n ≡ true)
        → (b || is_taken ts n) ≡ true
    go true found more = refl
    go false found more = more found

-- if an open haul refuses a lawful report, and not for lack of memory, the report's soup was already taken
pub refused_was_taken : (held : Held) (r : Reported) (reason : OfferError) → IsReply (Some reason) (refusal_at held r)
    → (Some reason ≢ Some (Memory out_of_memory)) → HasSoupOf held r
refused_was_taken held r reason (inr none) answered is_open lawful = absurd (answered none.0)
refused_was_taken held r reason (inl same) answered is_open lawful =
    let job = and_parts (same_job held.terms.job r.job) (nat_le r.worker held.terms.workers && is_in held.terms.ranges r.number) lawful in
    let others = and_parts (nat_le r.worker held.terms.workers) (is_in held.terms.ranges r.number) job.1 in
    let over : nat_lt held.terms.workers r.worker ≡ false =
    le-ltb held.terms.workers r.worker (leb-true r.worker held.terms.workers others.0) in
    let w = double_of held.closed (same_job held.terms.job r.job) (nat_lt held.terms.workers r.worker) (is_in held.terms.ranges r.number)
    (worker_in r.number held.taken) reason is_open job.0 over others.1 same in
    of_worker_taken held.taken r.number w.0 w.1

-- ---- the collector's loop

pub collected_none : (begun : Collector) → Collected begun begun true
collected_none begun = record {
  notes = [];
  belt = refl;
  got = sym (append-nil begun.receiver.got);
  senders = All-nil (λ (m : ℕ × Note). (1 ≤ m.0) × (m.0 ≤ begun.receiver.belt.workers));
  done = let a : dones [] ≡ 0 = refl in omega arith;
  ends = elim (dec_le 1 begun.awaited) [ yes some ↦ inl some | no none ↦ inr (inl refl) ];
  part = [];
  some = refl;
  added = added_none begun.haul;
  all = λ _. (added_none begun.haul).stands;
  soups = λ _. All-nil (HasSoupOf begun.haul);
  lost = λ no. absurd (true≢false no);
}

module _ {before after : Collector} {answered : Bool} (c : Collected before after answered) where
  -- a subsequence of the reports before, followed by this report or nothing, is a subsequence of all reports
  some_more : (r : Reported) (sender : ℕ) (part more : List Reported) → IsSubsequence part (reports_in c.notes)
      → IsSubsequence more (r ∷ [])
      → IsSubsequence (part ++ more) (reports_in (c.notes ++ (sender, Report r) ∷ []))
  some_more r sender part more p q =
      subst (λ (l : List Reported). IsSubsequence (part ++ more) l) (sym (reports_push c.notes (sender, Report r)))
      (part_append part (reports_in c.notes) more (r ∷ []) p q)

  -- a report that was lost before is still lost after the next report `r`; `more` has `r` if the haul takes it, and is
  -- otherwise empty
  lost_more : (r : Reported) (sender : ℕ) (more : List Reported) → IsSubsequence more (r ∷ [])
      → HasLost (reports_in c.notes) c.part before.haul
      → HasLost (reports_in (c.notes ++ (sender, Report r) ∷ [])) (c.part ++ more) before.haul
  lost_more r sender more q lost =
      record {
        before = lost.before;
        report = lost.report;
        later = lost.later ++ more;
        taken = ap (λ (l : List Reported). l ++ more) lost.taken ∙ append_assoc lost.before lost.later more;
        some = subst (λ (l : List Reported). IsSubsequence l (reports_in (c.notes ++ (sender, Report r) ∷ [])))
            (append_assoc lost.before (lost.report ∷ lost.later) more)
            (some_more r sender (lost.before ++ lost.report ∷ lost.later) more lost.some q);
        eligible = lost.eligible;
      }

  -- what the haul has taken after one more report
  record Takes (r : Reported) (sender : ℕ) (new : Held) : Type 0 where
    part : List Reported
    some : IsSubsequence part (reports_in (c.notes ++ (sender, Report r) ∷ []))
    added : HasAdded part before.haul new
    lost : HasLost (reports_in c.notes) c.part before.haul
        → HasLost (reports_in (c.notes ++ (sender, Report r) ∷ [])) part before.haul

  takes : (r : Reported) (sender : ℕ) (new : Held) → (new ≡ after.haul) ⊎ HasAdded (r ∷ []) after.haul new
      → Takes r sender new
  takes r sender new added =
      ⊎_elim
      (λ (same : new ≡ after.haul). record {
        part = c.part;
        some = subst (λ (l : List Reported). IsSubsequence l (reports_in (c.notes ++ (sender, Report r) ∷ [])))
            (append-nil c.part) (some_more r sender c.part [] c.some (part_none (r ∷ [])));
        added = subst (HasAdded c.part before.haul) (sym same) c.added;
        lost = λ lost. subst (λ (l : List Reported). HasLost (reports_in (c.notes ++ (sender, Report r) ∷ [])) l before.haul)
            (append-nil c.part) (lost_more r sender [] (part_none (r ∷ [])) lost);
      })
      (λ (more : HasAdded (r ∷ []) after.haul new). record {
        part = c.part ++ r ∷ [];
        some = some_more r sender c.part (r ∷ []) c.some (part_all (r ∷ []));
        added = added_more c.part (r ∷ []) before.haul after.haul new c.added more;
        lost = lost_more r sender (r ∷ []) (part_all (r ∷ []));
      }) added

module _ {before after : Collector} {next : Received Note} {answered : Bool} (c : Collected before after answered) where
  sender_in : (note : Note) (g : GotOne after.receiver next note)
      → All (λ (m : ℕ × Note). (1 ≤ m.0) × (m.0 ≤ before.receiver.belt.workers)) (c.notes ++ (g.sender, note) ∷ [])
  sender_in note g =
      let P : ℕ × Note → Type 0 = λ m. (1 ≤ m.0) × (m.0 ≤ before.receiver.belt.workers) in
      All-append P c.notes ((g.sender, note) ∷ []) c.senders
      (All-cons P (g.sender, note) [] (g.some_worker.0, subst (λ (b : BeltId). g.sender ≤ b.workers) c.belt g.some_worker.1) (All-nil P))

  got_more : (note : Note) (g : GotOne after.receiver next note)
      → next.got ≡ before.receiver.got ++ (c.notes ++ (g.sender, note) ∷ [])
  got_more note g =
      g.got ∙ ap (λ (l : List (ℕ × Note)). l ++ (g.sender, note) ∷ []) c.got
      ∙ append_assoc before.receiver.got c.notes ((g.sender, note) ∷ [])

  -- `Collected` holds after a report that the haul took or refused
  pub collected_heard : (r : Reported) (new : Held) → GotOne after.receiver next (Report r) → 0 < after.awaited
      → (new ≡ after.haul) ⊎ HasAdded (r ∷ []) after.haul new
      → HasComeAll (r ∷ []) after.haul new → HasSoupOf new r → Collected before (collector_with after.awaited next new) answered
  collected_heard r new g some added met soup =
      let whole = reports_push c.notes (g.sender, Report r) in
      let t = takes c r g.sender new added in
      record {
        notes = c.notes ++ (g.sender, Report r) ∷ [];
        belt = g.belt ∙ c.belt;
        got = got_more (Report r) g;
        senders = sender_in (Report r) g;
        done = let a = dones_push c.notes (g.sender, Report r) in let b = c.done in omega arith;
        ends = inl some;
        part = t.part;
        some = t.some;
        added = t.added;
        all = λ yes. subst (λ (l : List Reported). HasComeAll l before.haul new) (sym whole)
            (come_more (reports_in c.notes) (r ∷ []) before.haul after.haul new (c.all yes) met);
        soups = λ yes. subst (All (HasSoupOf new)) (sym whole)
            (All-push (HasSoupOf new) (reports_in c.notes) r (soups_after r after.haul new (reports_in c.notes) added (c.soups yes)) soup);
        lost = λ no. t.lost (c.lost no);
      }

  -- `Collected` holds after a report that was lost because there was no memory for it
  pub collected_unheard : (r : Reported) (new : Held) → GotOne after.receiver next (Report r) → 0 < after.awaited
      → new ≡ after.haul
      → ((arrivals : List Arrival) → StandsFor arrivals after.haul → refusal_of after.haul.terms arrivals r ≡ None)
      → Collected before (collector_with after.awaited next new) false
  collected_unheard r new g some same eligible =
      record {
        notes = c.notes ++ (g.sender, Report r) ∷ [];
        belt = g.belt ∙ c.belt;
        got = got_more (Report r) g;
        senders = sender_in (Report r) g;
        done = let a = dones_push c.notes (g.sender, Report r) in let b = c.done in omega arith;
        ends = inl some;
        part = c.part;
        some = subst (λ (l : List Reported). IsSubsequence l (reports_in (c.notes ++ (g.sender, Report r) ∷ [])))
            (append-nil c.part) (some_more c r g.sender c.part [] c.some (part_none (r ∷ [])));
        added = subst (HasAdded c.part before.haul) (sym same) c.added;
        all = λ yes. absurd (true≢false (sym yes));
        soups = λ yes. absurd (true≢false (sym yes));
        lost = λ no. record {
          before = c.part;
          report = r;
          later = [];
          taken = sym (append-nil c.part);
          some = some_more c r g.sender c.part (r ∷ []) c.some (part_all (r ∷ []));
          eligible = λ arrivals s. subst (λ (t : Terms). refusal_of t (arrivals ++ map Offer c.part) r ≡ None) c.added.terms
              (eligible (arrivals ++ map Offer c.part) (c.added.stands arrivals s));
        };
      }

  -- `Collected` holds after a note "done"
  pub collected_done : (worker : ℕ) → GotOne after.receiver next (Done worker) → 0 < after.awaited
      → Collected before (collector_with (after.awaited - 1) next after.haul) answered
  collected_done worker g some =
      let whole : reports_in (c.notes ++ (g.sender, Done worker) ∷ []) ≡ reports_in c.notes =
      reports_push c.notes (g.sender, Done worker) ∙ append-nil (reports_in c.notes) in
      record {
        notes = c.notes ++ (g.sender, Done worker) ∷ [];
        belt = g.belt ∙ c.belt;
        got = got_more (Done worker) g;
        senders = sender_in (Done worker) g;
        done = let a = dones_push c.notes (g.sender, Done worker) in let b = c.done in omega arith;
        ends = inr (inr (c.notes, g.sender, worker, refl));
        part = c.part;
        some = subst (λ (l : List Reported). IsSubsequence c.part l) (sym whole) c.some;
        added = c.added;
        all = λ yes. subst (λ (l : List Reported). HasComeAll l before.haul after.haul) (sym whole) (c.all yes);
        soups = λ yes. subst (All (HasSoupOf after.haul)) (sym whole) (c.soups yes);
        lost = λ no. subst (λ (l : List Reported). HasLost l c.part before.haul) (sym whole) (c.lost no);
      }

-- ---- what an observer was handed

-- `hears s reports t` says that the observer went from `s` to `t` when it was handed the reports. If it was handed one
-- list and then another, it was handed both lists joined.
module _ {O : Type 0} (hears : O → List Reported → O → Type 0)
    (hears_more : (s m t : O) (xs ys : List Reported) → hears s xs m → hears m ys t → hears s (xs ++ ys) t) where
  pub heard_none : (pass : Received Note) (s t : O) → hears s [] t → HasHeard pass pass (λ reports. hears s reports t)
  heard_none pass s t nothing = record { notes = []; got = sym (append-nil pass.got); heard = nothing }

  -- `HasHeard` still holds if the observer is handed nothing more
  pub heard_still : {old new : Received Note} (s m t : O) → HasHeard old new (λ reports. hears s reports m) → hears m [] t
      → HasHeard old new (λ reports. hears s reports t)
  heard_still s m t h nothing = record {
    notes = h.notes;
    got = h.got;
    heard = subst (λ (l : List Reported). hears s l t) (append-nil (reports_in h.notes)) (hears_more s m t (reports_in h.notes) [] h.heard nothing);
  }

  -- `HasHeard` still holds if the observer was handed nothing before
  pub heard_then : {old new : Received Note} (s m t : O) → hears s [] m → HasHeard old new (λ reports. hears m reports t)
      → HasHeard old new (λ reports. hears s reports t)
  heard_then s m t nothing h = record { notes = h.notes; got = h.got; heard = hears_more s m t [] (reports_in h.notes) nothing h.heard }

  -- `HasHeard` holds after one more note if the observer was handed the note's report, or nothing if the note has none
  pub heard_note : {old new next : Received Note} (note : Note) (s m t : O) → HasHeard old new (λ reports. hears s reports m)
      → GotOne new next note → hears m (report_in note) t → HasHeard old next (λ reports. hears s reports t)
  heard_note {old} note s m t h g more = record {
    notes = h.notes ++ (g.sender, note) ∷ [];
    got = g.got ∙ ap (λ (l : List (ℕ × Note)). l ++ (g.sender, note) ∷ []) h.got ∙ append_assoc old.got h.notes ((g.sender, note) ∷ []);
    heard = subst (λ (l : List Reported). hears s l t) (sym (reports_push h.notes (g.sender, note)))
        (hears_more s m t (reports_in h.notes) (report_in note) h.heard more);
  }
