use Rattle.std.proofs.KnownBytes.{Appends-nil}
use Rattle.std.specs.Io.KnownBytes.{prepend_known}
use Rattle.pattern_commands.specs.Streams.{stream}
use Rattle.pattern_commands.proofs.AnswerLemmas.{err_of}
use Rattle.commands.proofs.EndLemmas.{gathers_haul, gathers_lines, stops_finished, stops_lines}
use Rattle.commands.proofs.gather.Gatherer.gather_and_finish.Goals as goal

pub returns-in_err-gather_lines-clause-gathers : goal.returns-in_err-gather_lines-clause-gathers
returns-in_err-gather_lines-clause-gathers g c =
    let at_ = c.in_err-gather_lines.ensures.ended in
    let ended = gathers_lines c.args.self.now.haul.terms (g.R.Read.remaining c.args.input.now)
    (prepend_known at_.ahead (g.R.Read.remaining c.gather_lines.new.input)) c.in_err-gather_lines.field-0.0
    (stream g.W.Write.contents c.args.output.now c.args.output.now) (stream g.E.Write.contents c.args.errors.now c.gather_lines.new.errors)
    at_.ends (Appends-nil _) in
    (ended.0, ended.1, rw (err_of _ _ c.from_residual.ensures.1) ended.2)

pub returns-in_err-gather_lines-clause-place : goal.returns-in_err-gather_lines-clause-place
returns-in_err-gather_lines-clause-place g c =
    rw (err_of _ _ c.from_residual.ensures.1)
    (stops_lines c.args.self.now.haul.terms g.R.Read.remaining c.args.input.now c.gather_lines.new.input
    (stream g.E.Write.contents c.args.errors.now c.gather_lines.new.errors) c.in_err-gather_lines.field-0.0 c.in_err-gather_lines.ensures.ended)

pub returns-clause-gathers : goal.returns-clause-gathers
returns-clause-gathers g c =
    let all = c.in_ok-gather_lines.ensures.gathered in (
      all.all.bytes,
      all.all.input,
      gathers_haul c.args.self.now.haul.terms _ _ _ _ c.finish.result _ _ all c.gather_lines.ensures.terms c.finish.ensures.terms c.finish.ensures.taken
          c.finish.ensures.stands c.finish.ensures.finishes c.in_ok-gather_lines.ensures.fine,
    )

pub returns-clause-place : goal.returns-clause-place
returns-clause-place g c =
    stops_finished c.args.self.now.haul.terms _ g.R.Read.remaining c.args.input.now c.gather_lines.new.input c.finish.result _ _
    c.in_ok-gather_lines.ensures.gathered c.gather_lines.ensures.terms c.finish.ensures.finishes

pub returns-in_err-gather_lines-clause-little : goal.returns-in_err-gather_lines-clause-little
returns-in_err-gather_lines-clause-little g c = c.gather_lines.ensures.little

pub returns-clause-little : goal.returns-clause-little
returns-clause-little g c = c.gather_lines.ensures.little
