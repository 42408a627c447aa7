use Rattle.std.proofs.Common.{◌≡◌, arith, refl}
use Rattle.std.proofs.KnownBytes.{Appends-nil}
use Rattle.commands.specs.Take.{TellsAll}
use Rattle.pattern_commands.proofs.AnswerLemmas.{err_of}
use Rattle.commands.proofs.StillLemmas.{never_refused}
use Rattle.commands.proofs.TakeLemmas.{Stops_opening, memory_accepted, take_ends, take_stops}
use Rattle.commands.proofs.take.print_haul.Goals as goal

pub returns-in_err-haul-clause-reached : goal.returns-in_err-haul-clause-reached
returns-in_err-haul-clause-reached g c reader bytes errors still =
    rw (err_of _ _ c.from_residual.ensures.1)
    (take_stops (g.G.Gate.may_stop c.args.gate.now) (g.G.Gate.lets c.args.gate.now) c.args.workers c.args.plan.now reader bytes c.in_err-haul.field-0.0 _ errors
    (Stops_opening c.args.plan.now TellsAll c.in_err-haul.field-0.0 c.in_err-haul.ensures.stops) (Appends-nil _) still)

pub returns-clause-reached : goal.returns-clause-reached
returns-clause-reached g c reader bytes errors still =
    let crew = c.complete_by_crew-haul.ensures in
    let taken = c.recall_taken_is_subset.ensures in
    let end = c.finish_unless.ensures in
    take_ends (g.G.Gate.may_stop c.args.gate.now) (g.G.Gate.lets c.args.gate.now) c.args.workers c.args.plan.now reader bytes c.in_ok-haul.haul c.complete_by_crew-haul.result.0
    c.complete_by_crew-haul.result.1 c.finish_unless.result _ errors c.in_ok-haul.ensures.opened crew.grown
    taken.within taken.distinct crew.let_in crew.ends crew.memory end.finishes end.none end.gives_up still

pub returns-in_err-haul-clause-untouched : goal.returns-in_err-haul-clause-untouched
returns-in_err-haul-clause-untouched g c = rw (err_of _ _ c.from_residual.ensures.1) (λ is. refl)

pub returns-in_err-haul-clause-no_memory : goal.returns-in_err-haul-clause-no_memory
returns-in_err-haul-clause-no_memory g c = rw (err_of _ _ c.from_residual.ensures.1) (λ is. refl)

pub complete_by_crew-haul-requires-clause-some : goal.complete_by_crew-haul-requires-clause-some
complete_by_crew-haul-requires-clause-some g c κs lives = c.requires.workers.least

pub complete_by_crew-haul-requires-clause-few : goal.complete_by_crew-haul-requires-clause-few
complete_by_crew-haul-requires-clause-few g c κs lives = omega (arith, c.in_ok-haul.ensures.opened.opened.workers_are)

pub complete_by_crew-haul-requires-clause-open : goal.complete_by_crew-haul-requires-clause-open
complete_by_crew-haul-requires-clause-open g c κs lives = c.in_ok-haul.ensures.opened.opened.stands.closed

pub finish_unless-requires-clause-output : goal.finish_unless-requires-clause-output
finish_unless-requires-clause-output g c = c.requires.output

pub finish_unless-requires-clause-stops : goal.finish_unless-requires-clause-stops
finish_unless-requires-clause-stops g c = memory_accepted c.complete_by_crew-haul.result.1 c.complete_by_crew-haul.ensures.memory

pub returns-clause-untouched : goal.returns-clause-untouched
returns-clause-untouched g c =
    never_refused (c.finish_unless.new.output ≡ c.args.output.now) c.finish_unless.result c.finish_unless.ensures.accepted

pub returns-clause-no_memory : goal.returns-clause-no_memory
returns-clause-no_memory g c = c.finish_unless.ensures.no_memory
