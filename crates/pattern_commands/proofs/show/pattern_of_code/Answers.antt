use Rattle.pattern_commands.proofs.AnswerLemmas.{err_of}
use Rattle.pattern_commands.proofs.ShowLemmas.{finds_fault}
use Rattle.pattern_commands.proofs.show.pattern_of_code.Goals as goal

pub returns-in_err-read_wechsler : goal.returns-in_err-read_wechsler
returns-in_err-read_wechsler c form =
    rw (err_of _ _ c.from_residual-in_err-read_wechsler.ensures.1)
    (finds_fault form c.args.code.now c.in_ok-text.text.now c.in_err-read_wechsler.field-0.0 c.in_ok-text.ensures.ok c.in_err-read_wechsler.ensures.fault)
