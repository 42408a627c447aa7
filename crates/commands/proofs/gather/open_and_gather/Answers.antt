use Rattle.std.proofs.Common.{◌≡◌, refl}
use Rattle.std.proofs.KnownBytes.{Appends-nil}
use Rattle.pattern_commands.proofs.AnswerLemmas.{err_of, some_input}
use Rattle.pattern_commands.specs.Streams.{stream}
use Rattle.commands.proofs.EndLemmas.{gathers_opening, gathers_over, is_over, reads_named, stops_over, unread_opening}
use Rattle.commands.proofs.StillLemmas.{never_refused}
use Rattle.commands.proofs.gather.open_and_gather.Goals as goal

pub returns-in_err-haul-clause-gathers : goal.returns-in_err-haul-clause-gathers
returns-in_err-haul-clause-gathers g c =
    let some = some_input (g.R.Read.remaining c.args.input.now) in (
      some.0,
      some.1,
      rw (err_of _ _ c.from_residual.ensures.1)
          (gathers_opening c.args.plan.now c.args.workers some.0 _ c.in_err-haul.field-0.0 _ _
          c.in_err-haul.ensures.stops (record { nothing = Appends-nil _; silent = Appends-nil _; fine = c.requires.errors })),
    )

pub gather_and_finish-requires-clause-haul : goal.gather_and_finish-requires-clause-haul
gather_and_finish-requires-clause-haul g c = c.in_ok-haul.ensures.opened.opened.stands

pub returns-clause-gathers : goal.returns-clause-gathers
returns-clause-gathers g c =
    let is = c.in_ok-haul.ensures.opened in
    let facts = c.gather_and_finish.ensures.gathers in (
      facts.0,
      facts.1,
      gathers_over c.args.plan.now c.args.workers facts.0 _ is.job _ _ _ _ is.named (is_over _ _ _ _ is.opened) facts.2,
    )

pub returns-in_err-haul-clause-place : goal.returns-in_err-haul-clause-place
returns-in_err-haul-clause-place g c =
    rw (err_of _ _ c.from_residual.ensures.1)
    (unread_opening c.args.plan.now c.args.workers g.R.Read.remaining c.args.input.now c.in_err-haul.field-0.0
    (stream g.E.Write.contents c.args.errors.now c.args.errors.now) c.in_err-haul.ensures.stops (Appends-nil _))

pub returns-clause-place : goal.returns-clause-place
returns-clause-place g c =
    let is = c.in_ok-haul.ensures.opened in
    stops_over c.args.plan.now c.args.workers is.job _ g.R.Read.remaining c.args.input.now c.gather_and_finish.new.input
    (stream g.E.Write.contents c.args.errors.now c.gather_and_finish.new.errors) c.gather_and_finish.result is.named (is_over _ _ _ _ is.opened) c.gather_and_finish.ensures.place

pub returns-clause-unread : goal.returns-clause-unread
returns-clause-unread g c unread =
    absurd (reads_named c.args.plan.now c.in_ok-haul.ensures.opened.job c.in_ok-haul.ensures.opened.named unread)

pub returns-in_err-haul-clause-untouched : goal.returns-in_err-haul-clause-untouched
returns-in_err-haul-clause-untouched g c = rw (err_of _ _ c.from_residual.ensures.1) (λ is. (refl, refl))

pub returns-in_err-haul-clause-no_memory : goal.returns-in_err-haul-clause-no_memory
returns-in_err-haul-clause-no_memory g c = rw (err_of _ _ c.from_residual.ensures.1) (λ is. refl)

pub returns-clause-fine : goal.returns-clause-fine
returns-clause-fine g c = c.gather_and_finish.ensures.fine

pub returns-clause-untouched : goal.returns-clause-untouched
returns-clause-untouched g c =
    never_refused ((c.gather_and_finish.new.input ≡ c.args.input.now) × (c.gather_and_finish.new.output ≡ c.args.output.now)) c.gather_and_finish.result
    c.gather_and_finish.ensures.accepted

pub returns-clause-no_memory : goal.returns-clause-no_memory
returns-clause-no_memory g c = c.gather_and_finish.ensures.no_memory
