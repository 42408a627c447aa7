use Rattle.pattern_commands.specs.Answers.{only}
use Rattle.pattern_commands.specs.Inputs.{rule_named}
use Rattle.pattern_commands.specs.PatternText.{pattern_text}
use Rattle.pattern_commands.specs.Run.{run_answer}
use Rattle.pattern_commands.proofs.FoundLemmas.{input_ends, memory_untouched, not_ok, refused_untouched, unread_refused}
use Rattle.pattern_commands.proofs.run.do_run.Goals as goal

pub returns-clause-ends : goal.returns-clause-ends
returns-clause-ends g c =
    input_ends _ _ _ _ _ _ _ _ _ _ _ (λ bytes. only (run_answer c.args.form c.args.rule_text.now c.args.generations bytes)) c.generation_of-found.result
    (λ bytes some is. is c.args.form) c.generation_of-found.ensures c.end_with_pattern.ensures

pub returns-clause-rule_first : goal.returns-clause-rule_first
returns-clause-rule_first g c refused =
    unread_refused _ _ _ _ _ _ _ _ _ _ _ c.generation_of-found.result c.generation_of-found.ensures c.end_with_pattern.ensures (not_ok (rule_named c.args.rule_text.now) refused)

pub returns-clause-untouched : goal.returns-clause-untouched
returns-clause-untouched g c refused = refused_untouched _ _ _ _ _ _ c.generation_of-found.result c.end_with_pattern.ensures refused

pub returns-clause-no_memory : goal.returns-clause-no_memory
returns-clause-no_memory g c memory = memory_untouched _ _ _ _ _ _ c.generation_of-found.result c.end_with_pattern.ensures memory
