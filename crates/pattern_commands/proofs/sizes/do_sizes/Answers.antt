use Rattle.std.proofs.Common.{◌∙◌}
use Rattle.std.proofs.KnownBytes.{Appends-nil}
use Rattle.pattern_commands.specs.Inputs.{rule_named}
use Rattle.pattern_commands.specs.Streams.{stream}
use Rattle.pattern_commands.proofs.FoundLemmas.{not_ok}
use Rattle.pattern_commands.proofs.SizeEndLemmas.{rule_kept, sizes_end, sizes_refuse_nothing, sizes_unread}
use Rattle.pattern_commands.proofs.sizes.do_sizes.Goals as goal

pub returns-in-Err-clause-ends : goal.returns-in-Err-clause-ends
returns-in-Err-clause-ends g c =
    sizes_unread c.args.rule_text.now c.args.from c.args.last g.R.Read.remaining c.args.input.now c.read_ruled_pattern.new.input
    (stream g.W.Write.contents c.args.output.now c.args.output.now) (stream g.E.Write.contents c.args.errors.now c.end_command.new.errors)
    c.end_command.result c.in-Err.complaint c.in-Err.ensures.found (Appends-nil _) c.end_command.ensures.status c.end_command.ensures.line

pub returns-in-Err-clause-rule_first : goal.returns-in-Err-clause-rule_first
returns-in-Err-clause-rule_first g c refused =
    let unread = c.in-Err.ensures.found.refused (not_ok (rule_named c.args.rule_text.now) refused) in
    (c.end_command.ensures.status ∙ unread.0, unread.1)

pub returns-clause-ends : goal.returns-clause-ends
returns-clause-ends g c =
    sizes_end c.args.rule_text.now c.args.from c.args.last g.R.Read.remaining c.args.input.now c.read_ruled_pattern.new.input
    (stream g.W.Write.contents c.args.output.now c.put_sizes-outcome.new.output) (stream g.E.Write.contents c.args.errors.now c.end_text_command.new.errors)
    c.end_text_command.result c.in-Ok.read.0 c.in-Ok.read.1 c.in-Ok.ensures.found c.put_sizes-outcome.result c.put_sizes-outcome.ensures
    c.end_text_command.ensures.status c.end_text_command.ensures.last

pub returns-clause-rule_first : goal.returns-clause-rule_first
returns-clause-rule_first g c refused =
    absurd (rule_kept c.args.rule_text.now c.args.from c.args.last g.R.Read.remaining c.args.input.now c.read_ruled_pattern.new.input
    (stream g.W.Write.contents c.args.output.now c.put_sizes-outcome.new.output) (stream g.E.Write.contents c.args.errors.now c.end_text_command.new.errors)
    c.end_text_command.result c.in-Ok.read.0 c.in-Ok.read.1 c.in-Ok.ensures.found refused)

pub returns-clause-untouched : goal.returns-clause-untouched
returns-clause-untouched g c refused =
    absurd (sizes_refuse_nothing c.args.rule_text.now c.args.from c.args.last g.R.Read.remaining c.args.input.now c.read_ruled_pattern.new.input
    (stream g.W.Write.contents c.args.output.now c.put_sizes-outcome.new.output) (stream g.E.Write.contents c.args.errors.now c.end_text_command.new.errors)
    c.end_text_command.result _ c.put_sizes-outcome.result c.put_sizes-outcome.ensures c.end_text_command.ensures.status refused)
