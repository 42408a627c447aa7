use Rattle.std.proofs.Common.{◌∙◌, Err, ap, arith}
use Rattle.pattern_commands.proofs.AnswerLemmas.{err_of}
use Rattle.pattern_commands.specs.Streams.{stream}
use Rattle.commands.proofs.GatherLemmas.{goes_on, line_may_end, line_most, next_read, next_unread, no_more}
use Rattle.commands.proofs.LineLemmas.{part_of_line}
use Rattle.commands.proofs.gather.Gatherer.gather_next.Goals as goal

pub returns-in_ok-gather_line-clause-short : goal.returns-in_ok-gather_line-clause-short
returns-in_ok-gather_line-clause-short g c = c.in_ok-read.ensures.read.short

pub returns-in_ok-gather_line-clause-going : goal.returns-in_ok-gather_line-clause-going
returns-in_ok-gather_line-clause-going g c reader first size gathered =
    let read = c.in_ok-read.ensures.read in
    let by = c.in_ok-gather_line.ensures.come read.line gathered.lines gathered.diagnostics (c.line.ensures ∙ read.kept_is) gathered.count_is gathered.come in
    goes_on g.E.Write.contents _ reader _ _ first c.args.errors.now c.gather_line.new.errors _ size _ _ _ c.in_ok-read.read
    gathered read c.if-read-gt0.true by

pub returns-else-read-gt0-clause-going : goal.returns-else-read-gt0-clause-going
returns-else-read-gt0-clause-going g c reader first size gathered =
    no_more _ reader _ _ (stream g.E.Write.contents first c.args.errors.now) _ size _ _ c.in_ok-read.read gathered
    c.in_ok-read.ensures.read
    (omega (arith, c.if-read-gt0.false))

pub returns-in_err-read-clause-ended : goal.returns-in_err-read-clause-ended
returns-in_err-read-clause-ended g c =
    rw (err_of _ _ c.from_residual.ensures.1)
    (next_unread _ _ c.args.errors.now c.in_err-read.field-0.0 (λ long. c.in_err-read.ensures.long (ap Err long)))

pub returns-in_err-gather_line-clause-ended : goal.returns-in_err-gather_line-clause-ended
returns-in_err-gather_line-clause-ended g c =
    rw (err_of _ _ c.from_residual-in_err-gather_line.ensures.1)
    (next_read _ _ _ _ c.in_err-gather_line.field-0.0 c.in_err-gather_line.ensures.ended)

pub returns-in_err-read-clause-part : goal.returns-in_err-read-clause-part
returns-in_err-read-clause-part g c = rw (err_of _ _ c.from_residual.ensures.1) c.in_err-read.ensures.part

pub returns-in_err-gather_line-clause-part : goal.returns-in_err-gather_line-clause-part
returns-in_err-gather_line-clause-part g c =
    rw (err_of _ _ c.from_residual-in_err-gather_line.ensures.1) (part_of_line _ _ _ _ c.in_ok-read.read c.in_err-gather_line.field-0.0 c.in_ok-read.ensures.read
    (line_may_end _ _ c.in_err-gather_line.field-0.0 _ c.in_err-gather_line.ensures.ended))

pub returns-in_err-read-clause-most : goal.returns-in_err-read-clause-most
returns-in_err-read-clause-most g c = rw (err_of _ _ c.from_residual.ensures.1) c.in_err-read.ensures.most

pub returns-in_err-gather_line-clause-most : goal.returns-in_err-gather_line-clause-most
returns-in_err-gather_line-clause-most g c =
    rw (err_of _ _ c.from_residual-in_err-gather_line.ensures.1)
    (line_most _ _ c.in_err-gather_line.field-0.0 c.next.new.self.ahead c.in_err-gather_line.ensures.ended c.next.ensures.few)

pub returns-in_err-read-clause-little : goal.returns-in_err-read-clause-little
returns-in_err-read-clause-little g c = c.next.ensures.little

pub returns-in_err-gather_line-clause-little : goal.returns-in_err-gather_line-clause-little
returns-in_err-gather_line-clause-little g c = c.next.ensures.little
