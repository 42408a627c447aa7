use Rattle.std.proofs.Common.{◌≡◌, arith, refl}
use Rattle.std.proofs.KnownBytes.{Appends-nil}
use Rattle.commands.specs.Take.{TellsAll}
use Rattle.pattern_commands.proofs.AnswerLemmas.{err_of}
use Rattle.commands.proofs.ReportingLemmas.{not_refused, reporting_ends, reporting_stops}
use Rattle.commands.proofs.StillLemmas.{never_refused}
use Rattle.commands.proofs.TakeLemmas.{Stops_opening}
use Rattle.commands.proofs.reporting.print_reporting.Goals as goal

pub returns-in_err-haul-clause-reached : goal.returns-in_err-haul-clause-reached
returns-in_err-haul-clause-reached g c reader bytes =
    rw (err_of _ _ c.from_residual.ensures.1)
    (reporting_stops c.args.plan.now c.args.workers c.args.from reader bytes c.in_err-haul.field-0.0 _ _
    (Stops_opening c.args.plan.now TellsAll c.in_err-haul.field-0.0 c.in_err-haul.ensures.stops) (Appends-nil _) (Appends-nil _, c.requires.errors))

pub returns-in_err-haul-clause-untouched : goal.returns-in_err-haul-clause-untouched
returns-in_err-haul-clause-untouched g c = rw (err_of _ _ c.from_residual.ensures.1) (λ is. refl)

pub returns-in_err-haul-clause-no_memory : goal.returns-in_err-haul-clause-no_memory
returns-in_err-haul-clause-no_memory g c = rw (err_of _ _ c.from_residual.ensures.1) (λ is. refl)

pub report_by_crew-haul-requires-clause-some : goal.report_by_crew-haul-requires-clause-some
report_by_crew-haul-requires-clause-some g c κs lives = c.requires.workers.least

pub report_by_crew-haul-requires-clause-few : goal.report_by_crew-haul-requires-clause-few
report_by_crew-haul-requires-clause-few g c κs lives = omega (arith, c.in_ok-haul.ensures.opened.opened.workers_are)

pub report_by_crew-haul-requires-clause-open : goal.report_by_crew-haul-requires-clause-open
report_by_crew-haul-requires-clause-open g c κs lives = c.in_ok-haul.ensures.opened.opened.stands.closed

pub finish_unless-requires-clause-output : goal.finish_unless-requires-clause-output
finish_unless-requires-clause-output g c = c.requires.output

pub finish_unless-requires-clause-stops : goal.finish_unless-requires-clause-stops
finish_unless-requires-clause-stops g c = not_refused _ c.report_by_crew-haul.result.1 c.report_by_crew-haul.ensures.stops

pub returns-clause-reached : goal.returns-clause-reached
returns-clause-reached g c reader bytes =
    let end = c.finish_unless.ensures in
    reporting_ends c.report_by_crew-haul.result.1 c.in_ok-haul.ensures.opened c.report_by_crew-haul.ensures reader bytes c.finish_unless.result _
    end.finishes end.none end.gives_up

pub returns-clause-untouched : goal.returns-clause-untouched
returns-clause-untouched g c =
    never_refused (c.finish_unless.new.output ≡ c.args.output.now) c.finish_unless.result c.finish_unless.ensures.accepted

pub returns-clause-no_memory : goal.returns-clause-no_memory
returns-clause-no_memory g c = c.finish_unless.ensures.no_memory
