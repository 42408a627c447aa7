use Rattle.std.proofs.Common.{false}
use Rattle.pattern_commands.specs.Answers.{only}
use Rattle.pattern_commands.specs.Soup.{soup_answer}
use Rattle.pattern_commands.proofs.FoundLemmas.{found_ends, memory_untouched, refused_untouched}
use Rattle.pattern_commands.proofs.soup.do_soup.Goals as goal

pub returns-clause-ends : goal.returns-clause-ends
returns-clause-ends g c reader bytes =
    found_ends _ _ _ _ _ _ false (λ _. only (soup_answer c.args.form c.args.seed_text.now c.args.number)) reader bytes c.soup_named-found.result (c.soup_named-found.ensures c.args.form) c.end_with_pattern.ensures

pub returns-clause-untouched : goal.returns-clause-untouched
returns-clause-untouched g c refused = refused_untouched _ _ _ _ _ _ c.soup_named-found.result c.end_with_pattern.ensures refused

pub returns-clause-no_memory : goal.returns-clause-no_memory
returns-clause-no_memory g c memory = memory_untouched _ _ _ _ _ _ c.soup_named-found.result c.end_with_pattern.ensures memory
