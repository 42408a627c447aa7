use Rattle.std.proofs.Common.{◌≡◌, ◌∙◌, ◌+◌, ◌++◌, ◌∷◌, [], ℕ, List, None, ap, refl, sym, subst, subst₂, nat_eq, inl, inr, arith, length, if◌then◌else◌}
use Rattle.std.specs.Map.{lookup}
use Rattle.haul_core.specs.Replies.{refusal_at}
use Rattle.haul_core.specs.Books.{Held, StandsFor, Terms, entry}
use Rattle.haul_core.specs.Scores.{HasLawfulObjects, HasScores, added, found_in, score_in}
use Rattle.haul_core.specs.Totals.{is_for_good, is_unsettled}
use Rattle.haul_core.specs.declared.book.arrival.Arrival.TheVariants.{Offer}
use Rattle.std.proofs.lemmas.List.{length_push}
use Rattle.haul_core.specs.Keeping.{Sums}
use Rattle.haul_core.proofs.BookLemmas.{same_refusal, stands_refused, stands_taken}
use Rattle.haul_core.proofs.KeepLemmas.{HasRoom, has_room, lawful_of, keeps_mid, keeps_more, keeps_noted, none_noted}
use Rattle.haul_core.proofs.book.haul.Haul.offer.Goals as goal

pub returns-in-Some-clause-reply : goal.returns-in-Some-clause-reply
returns-in-Some-clause-reply c = λ arrivals s. inl (sym (same_refusal arrivals c.args.self.now c.args.report s ∙ sym c.refusal.ensures ∙ c.in-Some.is))

pub returns-in-Some-clause-stands : goal.returns-in-Some-clause-stands
returns-in-Some-clause-stands c = λ arrivals s answered.
    stands_refused arrivals c.args.self.now c.args.report c.in-Some.reason s (sym c.refusal.ensures ∙ c.in-Some.is)

pub invariant_of-self : goal.invariant_of-self
invariant_of-self c =
    let h = c.self.inside in
    keeps_mid (record { job = h.job; ranges = h.ranges; workers = h.workers }) h.closed h.taken.items c.make_room.new.taken.items h.count
    h.worker_of.entries c.make_room.new.worker_of.entries
    (record { scores = h.totals.scores.entries; unsettled = h.totals.unsettled; for_good = h.totals.for_good })
    (record { scores = c.make_room.new.totals.scores.entries; unsettled = c.make_room.new.totals.unsettled; for_good = c.make_room.new.totals.for_good })
    c.make_room.ensures.taken c.make_room.ensures.workers c.make_room.ensures.extends
    c.make_room.ensures.unsettled c.make_room.ensures.for_good c.self.invariant

pub returns-in-Err-clause-reply : goal.returns-in-Err-clause-reply
returns-in-Err-clause-reply c = λ arrivals s. inr (
  refl,
  same_refusal arrivals c.args.self.now c.args.report s ∙ sym c.refusal.ensures
      ∙ c.in_default.is,
)

pub add-requires : goal.add-requires
add-requires c =
    let h = c.self.inside in
    let terms : Terms = record { job = h.job; ranges = h.ranges; workers = h.workers } in
    let old : Sums = record {
      scores = c.make_room.new.totals.scores.entries;
      unsettled = c.make_room.new.totals.unsettled;
      for_good =
          c.make_room.new.totals.for_good;
    } in
    let mid = keeps_mid terms h.closed h.taken.items c.make_room.new.taken.items h.count h.worker_of.entries c.make_room.new.worker_of.entries
    (record { scores = h.totals.scores.entries; unsettled = h.totals.unsettled; for_good = h.totals.for_good }) old
    c.make_room.ensures.taken c.make_room.ensures.workers c.make_room.ensures.extends
    c.make_room.ensures.unsettled c.make_room.ensures.for_good c.self.invariant in
    let held : Held = record { terms = terms; closed = h.closed; taken = c.make_room.new.taken.items } in
    let more : length c.note.new.taken.items ≡ length c.make_room.new.taken.items + 1 = ap length c.note.ensures.taken
    ∙ length_push c.make_room.new.taken.items _ in
    let room : HasRoom old =
    has_room held h.count c.make_room.new.worker_of.entries old (omega (arith, more, c.note.new.taken.ok.0, c.note.new.taken.small)) mid in
    record {
      scores = subst (λ f. HasScores f c.make_room.new.totals.scores.entries) (c.finding-finding.ensures.finding ∙ sym c.finding.ensures.finding) c.in-Ok.ensures.scores;
      lawful = subst HasLawfulObjects (sym c.finding.ensures.finding) (lawful_of _ _ _ c.args.report.finding c.worker.ensures.report.finding);
      room = room.scores;
      unsettled = room.unsettled_room;
      for_good = room.for_good_room;
    }

pub invariant_of-self-2 : goal.invariant_of-self-2
invariant_of-self-2 c =
    let h = c.self.inside in
    let terms : Terms = record { job = h.job; ranges = h.ranges; workers = h.workers } in
    let old : Sums = record {
      scores = c.make_room.new.totals.scores.entries;
      unsettled = c.make_room.new.totals.unsettled;
      for_good =
          c.make_room.new.totals.for_good;
    } in
    let new : Sums = record { scores = c.add.new.self.scores.entries; unsettled = c.add.new.self.unsettled; for_good = c.add.new.self.for_good } in
    let mid = keeps_mid terms h.closed h.taken.items c.make_room.new.taken.items h.count h.worker_of.entries c.make_room.new.worker_of.entries
    (record { scores = h.totals.scores.entries; unsettled = h.totals.unsettled; for_good = h.totals.for_good }) old
    c.make_room.ensures.taken c.make_room.ensures.workers c.make_room.ensures.extends
    c.make_room.ensures.unsettled c.make_room.ensures.for_good c.self.invariant in
    let refused : refusal_at (record { terms = terms; closed = h.closed; taken = c.make_room.new.taken.items }) c.args.report ≡ None =
    ap (λ (ts : List (ℕ × ℕ)). refusal_at (record { terms = terms; closed = h.closed; taken = ts }) c.args.report) c.make_room.ensures.taken
    ∙ ap (λ (held : Held). refusal_at held c.args.report) c.self.view_is ∙ sym c.refusal.ensures ∙ c.in_default.is in
    keeps_noted terms h.closed c.make_room.new.taken.items c.note.new.taken.items h.count c.make_room.new.worker_of.entries c.note.new.worker_of.entries new
    (c.worker.result, c.number.result) (c.number.result, c.worker.result) c.args.report c.note.ensures.taken c.note.ensures.workers
    (λ i. (c.worker.ensures.worker i, c.number.ensures.number i)) (λ i. (c.number.ensures.number i, c.worker.ensures.worker i))
    (keeps_more terms h.closed c.make_room.new.taken.items h.count c.make_room.new.worker_of.entries old new c.args.report c.worker.ensures.report
    (lawful_of _ _ _ c.args.report.finding c.worker.ensures.report.finding) refused
    (λ code. c.add.ensures.scores code
    ∙ (λ i. added (found_in code (c.finding.ensures.finding i)) (c.number-2.ensures.number i) (score_in c.make_room.new.totals.scores.entries code)))
    (c.add.ensures.unsettled ∙ ap (λ f. c.make_room.new.totals.unsettled + (if is_unsettled f then 1 else 0)) c.finding.ensures.finding)
    (c.add.ensures.for_good ∙ ap (λ f. c.make_room.new.totals.for_good + (if is_for_good f then 1 else 0)) c.finding.ensures.finding) mid)

pub returns-clause-reply : goal.returns-clause-reply
returns-clause-reply c = λ arrivals s. inl (sym (same_refusal arrivals c.args.self.now c.args.report s ∙ sym c.refusal.ensures ∙ c.in_default.is))

pub returns-clause-stands : goal.returns-clause-stands
returns-clause-stands c = λ arrivals s answered.
    let h = c.self.inside in
    let entries : c.note.new.taken.items ≡ h.taken.items ++ entry c.args.report ∷ [] =
    c.note.ensures.taken ∙ (λ i. c.make_room.ensures.taken i ++ (c.worker.ensures.worker i, c.number.ensures.number i) ∷ []) in
    let own : StandsFor arrivals (record {
      terms = record { job = h.job; ranges = h.ranges; workers = h.workers };
      closed = h.closed;
      taken =
          h.taken.items;
    }) =
    subst (StandsFor arrivals) (sym c.self.view_is) s in
    let refused : refusal_at (record {
      terms = record { job = h.job; ranges = h.ranges; workers = h.workers };
      closed = h.closed;
      taken =
          h.taken.items;
    }) c.args.report ≡ None =
    ap (λ (held : Held). refusal_at held c.args.report) c.self.view_is ∙ sym c.refusal.ensures ∙ c.in_default.is in
    subst (λ (ts : List (ℕ × ℕ)). StandsFor (arrivals ++ Offer c.args.report ∷ [])
    (record { terms = record { job = h.job; ranges = h.ranges; workers = h.workers }; closed = h.closed; taken = ts })) (sym entries)
    (stands_taken arrivals (record {
      terms = record { job = h.job; ranges = h.ranges; workers = h.workers };
      closed = h.closed;
      taken =
          h.taken.items;
    }) c.args.report own refused)

pub returns-in-Some-clause-state : goal.returns-in-Some-clause-state
returns-in-Some-clause-state c = inl (sym c.in-Some.is ∙ c.refusal.ensures)

pub returns-in-Err-clause-state : goal.returns-in-Err-clause-state
returns-in-Err-clause-state c = inr (refl, sym c.refusal.ensures ∙ c.in_default.is)

pub returns-in-Err-clause-stands : goal.returns-in-Err-clause-stands
returns-in-Err-clause-stands c = λ arrivals s answered. absurd (answered refl)

pub returns-in-Err-clause-terms : goal.returns-in-Err-clause-terms
returns-in-Err-clause-terms c = ap (λ (h : Held). h.terms) c.self.view_is

pub returns-in-Err-clause-closed : goal.returns-in-Err-clause-closed
returns-in-Err-clause-closed c = ap (λ (h : Held). h.closed) c.self.view_is

pub returns-in-Err-clause-kept : goal.returns-in-Err-clause-kept
returns-in-Err-clause-kept c =
    let h = c.self.inside in
    let terms : Terms = record { job = h.job; ranges = h.ranges; workers = h.workers } in
    ap (λ (ts : List (ℕ × ℕ)). record { terms = terms; closed = h.closed; taken = ts }) c.make_room.ensures.taken ∙ c.self.view_is

pub note-requires-clause-room : goal.note-requires-clause-room
note-requires-clause-room c = c.in-Ok.ensures.room

pub note-requires-clause-spare : goal.note-requires-clause-spare
note-requires-clause-spare c = c.in-Ok.ensures.spare

pub note-requires-clause-new : goal.note-requires-clause-new
note-requires-clause-new c =
    let h = c.self.inside in
    let terms : Terms = record { job = h.job; ranges = h.ranges; workers = h.workers } in
    let held : Held = record { terms = terms; closed = h.closed; taken = h.taken.items } in
    subst₂ (λ (n : ℕ) (ws : List (ℕ × ℕ)). lookup (nat_eq n) ws ≡ None) (sym c.number.ensures.number) (sym c.make_room.ensures.workers)
    (none_noted held h.worker_of.entries c.args.report c.self.invariant.by_number
    (ap (λ (x : Held). refusal_at x c.args.report) c.self.view_is ∙ sym c.refusal.ensures ∙ c.in_default.is))

pub returns-clause-state : goal.returns-clause-state
returns-clause-state c = inl (sym c.in_default.is ∙ c.refusal.ensures)

pub returns-clause-taken : goal.returns-clause-taken
returns-clause-taken c =
    c.note.ensures.taken ∙ (λ i. c.make_room.ensures.taken i ++ (c.worker.ensures.worker i, c.number.ensures.number i) ∷ [])
    ∙ ap (λ (h : Held). h.taken ++ entry c.args.report ∷ []) c.self.view_is

pub returns-clause-terms : goal.returns-clause-terms
returns-clause-terms c = ap (λ (h : Held). h.terms) c.self.view_is

pub returns-clause-closed : goal.returns-clause-closed
returns-clause-closed c = ap (λ (h : Held). h.closed) c.self.view_is
