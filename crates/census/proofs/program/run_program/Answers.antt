use Rattle.std.proofs.Common.{◌∙◌, ap, sym}
use Rattle.pattern_commands.specs.Status.{exit_code}
use Rattle.census.proofs.HeadlineLemmas.{prints_if_done, prints_if_incomplete}
use Rattle.census.proofs.ProgramLemmas.{code_of_unprinted, is_usage}
use Rattle.census.proofs.program.run_program.Goals as goal

pub returns-in-Ok-clause-done : goal.returns-in-Ok-clause-done
returns-in-Ok-clause-done g c code =
    rw (c.in-Ok.is, ← c.as_slice.ensures.value) (c.do_buffered-status.ensures.done (sym c.exit_code.ensures ∙ code))

pub returns-in-Ok-clause-headline : goal.returns-in-Ok-clause-headline
returns-in-Ok-clause-headline g c code =
    rw (c.in-Ok.is, ← c.as_slice.ensures.value)
    (prints_if_done g.W.Write.contents _ _ c.args.output _ _ (c.do_buffered-status.ensures.done (sym c.exit_code.ensures ∙ code)))

pub returns-in-Ok-clause-headline_incomplete : goal.returns-in-Ok-clause-headline_incomplete
returns-in-Ok-clause-headline_incomplete g c code =
    rw (c.in-Ok.is, ← c.as_slice.ensures.value)
    (prints_if_incomplete g.W.Write.contents _ _ c.args.output _ _ (c.do_buffered-status.ensures.incomplete (sym c.exit_code.ensures ∙ code)))

pub returns-in-Ok-clause-ends : goal.returns-in-Ok-clause-ends
returns-in-Ok-clause-ends g c = rw (c.in-Ok.is, ← c.as_slice.ensures.value, c.exit_code.ensures) c.do_buffered-status.ensures

pub returns-in-Ok-clause-tells_usage : goal.returns-in-Ok-clause-tells_usage
returns-in-Ok-clause-tells_usage g c code = c.do_buffered-status.ensures.leaves.tells_usage (sym c.exit_code.ensures ∙ code)

pub returns-in-Err-clause-done : goal.returns-in-Err-clause-done
returns-in-Err-clause-done g c code =
    absurd ((code_of_unprinted _ c.end_with_unread_arguments-status.ensures.unprinted).0 (sym c.exit_code-in-Err.ensures ∙ code))

pub returns-in-Err-clause-headline : goal.returns-in-Err-clause-headline
returns-in-Err-clause-headline g c code =
    absurd ((code_of_unprinted _ c.end_with_unread_arguments-status.ensures.unprinted).0 (sym c.exit_code-in-Err.ensures ∙ code))

pub returns-in-Err-clause-headline_incomplete : goal.returns-in-Err-clause-headline_incomplete
returns-in-Err-clause-headline_incomplete g c code =
    absurd ((code_of_unprinted _ c.end_with_unread_arguments-status.ensures.unprinted).1 (sym c.exit_code-in-Err.ensures ∙ code))

pub returns-in-Err-clause-tells_usage : goal.returns-in-Err-clause-tells_usage
returns-in-Err-clause-tells_usage g c code =
    c.end_with_unread_arguments-status.ensures.tells_usage (is_usage _ (sym c.exit_code-in-Err.ensures ∙ code))

pub returns-in-Err-clause-not_text : goal.returns-in-Err-clause-not_text
returns-in-Err-clause-not_text g c = rw c.in-Err.is (λ other.
    let told = c.end_with_unread_arguments-status.ensures.not_text other in (c.exit_code-in-Err.ensures ∙ ap exit_code told.0, told.1))

pub returns-in-Err-clause-no_memory : goal.returns-in-Err-clause-no_memory
returns-in-Err-clause-no_memory g c = rw c.in-Err.is (λ is.
    let told = c.end_with_unread_arguments-status.ensures.no_memory is in (c.exit_code-in-Err.ensures ∙ ap exit_code told.0, told.1))
