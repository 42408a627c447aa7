use Rattle.std.proofs.Common.{◌∙◌, ap, length, refl, subst, sym}
use Rattle.haul_core.specs.Books.{Held}
use Rattle.haul_core.specs.Missing.{IsComplete}
use Rattle.crew.specs.Takes.{was_missing}
use Rattle.crew.proofs.CompleteLemmas.{nothing_missing}
use Rattle.handover.specs.Belts.{Received}
use Rattle.crew.specs.declared.note.Note.{Note}
use Rattle.crew.proofs.EndLemmas.{crew_ends, ends_unbegun, if_some}
use Rattle.crew.proofs.StepLemmas.{cause_none, cause_open, cause_stopped, ready_first}
use Rattle.crew.proofs.TakeLemmas.{belts_of, crew_has_taken, crew_heard, crew_heard_none, crew_stops, crew_within, series_of_all, taken_none}
use Rattle.crew.proofs.take.complete_haul.Goals as goal

pub returns-then-is_complete-clause-taken : goal.returns-then-is_complete-clause-taken
returns-then-is_complete-clause-taken g c = taken_none (g.G.Gate.lets c.args.gate.now) c.args.workers c.args.haul

pub returns-then-is_complete-clause-complete : goal.returns-then-is_complete-clause-complete
returns-then-is_complete-clause-complete g c _ = c.if-is_complete.ensures.complete.0 refl

pub returns-then-is_complete-clause-ends : goal.returns-then-is_complete-clause-ends
returns-then-is_complete-clause-ends g c = tt

pub returns-then-is_complete-clause-heard : goal.returns-then-is_complete-clause-heard
returns-then-is_complete-clause-heard g c =
    crew_heard_none (g.G.Gate.lets c.args.gate.now) c.args.workers c.args.haul
    (λ reports. g.H.ProgressObserver.hears c.args.observer.now reports c.args.observer.now)
    (g.met.H.ProgressObserver.hears_none c.args.observer.now)

pub returns-in-Err-clause-taken : goal.returns-in-Err-clause-taken
returns-in-Err-clause-taken g c = taken_none (g.G.Gate.lets c.args.gate.now) c.args.workers c.args.haul

pub returns-in-Err-clause-heard : goal.returns-in-Err-clause-heard
returns-in-Err-clause-heard g c =
    crew_heard_none (g.G.Gate.lets c.args.gate.now) c.args.workers c.args.haul
    (λ reports. g.H.ProgressObserver.hears c.args.observer.now reports c.args.observer.now)
    (g.met.H.ProgressObserver.hears_none c.args.observer.now)

pub run_in_scope-crew-requires-after_bounds : goal.run_in_scope-crew-requires-after_bounds
run_in_scope-crew-requires-after_bounds g c κs within =
    let setup = c.in-Ok.ensures in
    ready_first c.in-Ok.setup.shared _ c.args.workers setup.passes setup.many setup.senders setup.few refl
    (ap (λ (r : Received Note). r.belt) setup.receiver) setup.back refl

pub end_crew-requires-clause-passes : goal.end_crew-requires-clause-passes
end_crew-requires-clause-passes g c = series_of_all c.run_in_scope-crew.ensures.all

pub end_crew-requires-clause-senders : goal.end_crew-requires-clause-senders
end_crew-requires-clause-senders g c = belts_of c.run_in_scope-crew.ensures.all

pub end_crew-requires-clause-receiver : goal.end_crew-requires-clause-receiver
end_crew-requires-clause-receiver g c =
    c.run_in_scope-crew.ensures.all.collected.belt ∙ ap (λ (r : Received Note). r.belt) c.in-Ok.ensures.receiver

pub returns-clause-taken : goal.returns-clause-taken
returns-clause-taken g c =
    let setup = c.in-Ok.ensures in
    let ended = c.end_crew.ensures in
    crew_has_taken c.in-Ok.setup.shared c.args.workers _ c.run_in_scope-crew.result c.run_in_scope-crew.ensures.all setup.receiver
    setup.workers setup.missing setup.ascending setup.senders ended.whole c.end_crew.result.0 ended.haul ended.distinct setup.job

pub returns-clause-complete : goal.returns-clause-complete
returns-clause-complete g c none =
    let setup = c.in-Ok.ensures in
    let ended = c.end_crew.ensures in
    let crew = c.run_in_scope-crew.result in
    let both = cause_none crew.stopped crew.lacking (sym ended.cause ∙ none) in
    let nothing = nothing_missing c.in-Ok.setup.shared c.args.workers _ crew c.run_in_scope-crew.ensures.all setup.receiver
    setup.workers setup.missing setup.ascending setup.senders ended.whole c.requires.some c.requires.few c.requires.«open» setup.job
    refl setup.tickets ended.drawn both.0 both.1 in
    subst (λ (h : Held). IsComplete h.terms.ranges h.taken) (sym ended.haul) (ended.none.0 (ap length nothing))

pub returns-clause-stopped : goal.returns-clause-stopped
returns-clause-stopped g c worker is =
    let setup = c.in-Ok.ensures in
    let ended = c.end_crew.ensures in
    let crew = c.run_in_scope-crew.result in
    crew_stops c.in-Ok.setup.shared c.args.workers _ crew c.run_in_scope-crew.ensures.all setup.receiver
    setup.workers setup.missing setup.ascending setup.senders ended.whole worker
    (cause_stopped crew.stopped crew.lacking worker (sym ended.cause ∙ is))

pub returns-clause-within : goal.returns-clause-within
returns-clause-within g c worker is =
    let setup = c.in-Ok.ensures in
    let ended = c.end_crew.ensures in
    let crew = c.run_in_scope-crew.result in
    crew_within c.in-Ok.setup.shared c.args.workers _ crew c.run_in_scope-crew.ensures.all setup.receiver
    setup.workers setup.missing setup.ascending setup.senders ended.whole worker
    (cause_stopped crew.stopped crew.lacking worker (sym ended.cause ∙ is))

pub returns-clause-open : goal.returns-clause-open
returns-clause-open g c is =
    let crew = c.run_in_scope-crew.result in
    cause_open crew.stopped crew.lacking (sym c.end_crew.ensures.cause ∙ is)

pub returns-clause-heard : goal.returns-clause-heard
returns-clause-heard g c =
    let setup = c.in-Ok.ensures in
    let ended = c.end_crew.ensures in
    crew_heard c.in-Ok.setup.shared c.args.workers _ c.run_in_scope-crew.result c.run_in_scope-crew.ensures.all setup.receiver
    setup.workers setup.missing setup.ascending setup.senders ended.whole c.end_crew.result.0 ended.haul setup.job ended.once _
    c.run_in_scope-crew.ensures.heard

pub returns-in-Err-clause-ends : goal.returns-in-Err-clause-ends
returns-in-Err-clause-ends g c =
    ends_unbegun (g.G.Gate.may_stop c.args.gate.now) (g.G.Gate.lets c.args.gate.now) (was_missing c.args.haul) c.args.workers c.in-Err.error

pub returns-clause-ends : goal.returns-clause-ends
returns-clause-ends g c =
    let setup = c.in-Ok.ensures in
    let ended = c.end_crew.ensures in
    let crew = c.run_in_scope-crew.result in
    if_some _ _ (λ cause is. crew_ends c.in-Ok.setup.shared c.args.workers _ crew c.run_in_scope-crew.ensures.all setup.receiver
    setup.workers setup.missing setup.ascending setup.senders ended.whole cause (sym ended.cause ∙ is))
