use Rattle.pattern_commands.proofs.AnswerLemmas.{err_of}
use Rattle.pattern_commands.proofs.RunLemmas.{found_generation, found_no_generation}
use Rattle.pattern_commands.proofs.run.generation_of.Goals as goal

pub returns-in_err-rule : goal.returns-in_err-rule
returns-in_err-rule g c =
    rw (err_of _ _ c.from_residual.ensures.1)
    (found_no_generation c.args.rule_text.now c.args.generations g.R.Read.remaining c.args.input.now c.read_ruled_pattern.new.input c.in_err-rule.field-0.0
    c.in_err-rule.ensures.found)

pub returns : goal.returns
returns g c =
    found_generation c.args.rule_text.now c.args.generations g.R.Read.remaining c.args.input.now c.read_ruled_pattern.new.input c.in_ok-rule.rule
    c.in_ok-rule.pattern c.generation_after.result c.in_ok-rule.ensures.found c.generation_after.ensures.ok c.generation_after.ensures.err
