use Rattle.std.proofs.Common.{false}
use Rattle.pattern_commands.specs.Answers.{only}
use Rattle.pattern_commands.specs.Show.{show_answer}
use Rattle.pattern_commands.proofs.FoundLemmas.{found_ends, memory_untouched, refused_untouched}
use Rattle.pattern_commands.proofs.show.do_show.Goals as goal

pub returns-clause-ends : goal.returns-clause-ends
returns-clause-ends g c reader bytes =
    found_ends _ _ _ _ _ _ false (λ _. only (show_answer c.args.form c.args.code.now)) reader bytes c.pattern_of_code-found.result (c.pattern_of_code-found.ensures c.args.form) c.end_with_pattern.ensures

pub returns-clause-untouched : goal.returns-clause-untouched
returns-clause-untouched g c refused = refused_untouched _ _ _ _ _ _ c.pattern_of_code-found.result c.end_with_pattern.ensures refused

pub returns-clause-no_memory : goal.returns-clause-no_memory
returns-clause-no_memory g c memory = memory_untouched _ _ _ _ _ _ c.pattern_of_code-found.result c.end_with_pattern.ensures memory
