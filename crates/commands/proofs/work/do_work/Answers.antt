use Rattle.std.proofs.Common.{◌∙◌, false, sym}
use Rattle.commands.specs.Work.{work_right}
use Rattle.pattern_commands.proofs.TextLemmas.{text_ends, text_memory, text_refused}
use Rattle.commands.proofs.work.do_work.Goals as goal

pub returns-clause-ends : goal.returns-clause-ends
returns-clause-ends g c reader bytes =
    text_ends false false (λ _. work_right c.args.plan.now c.args.worker) reader bytes c.work-outcome.result _ _ _ c.work-outcome.ensures.reached
    c.end_text_command.ensures.status c.end_text_command.ensures.last

pub returns-clause-untouched : goal.returns-clause-untouched
returns-clause-untouched g c refused =
    text_refused c.work-outcome.result (sym c.end_text_command.ensures.status ∙ refused) c.work-outcome.ensures.untouched

pub returns-clause-whole_lines : goal.returns-clause-whole_lines
returns-clause-whole_lines g c memory =
    text_memory c.work-outcome.result (sym c.end_text_command.ensures.status ∙ memory) c.work-outcome.ensures.whole_lines
