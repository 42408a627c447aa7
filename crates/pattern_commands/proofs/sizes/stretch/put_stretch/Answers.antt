use Rattle.pattern_commands.proofs.SizeStepLemmas.{has_first}
use Rattle.pattern_commands.proofs.sizes.stretch.put_stretch.Goals as goal

pub returns-in_default-clause-lines : goal.returns-in_default-clause-lines
returns-in_default-clause-lines g c =
    (has_first c.args.rule.now c.args.pattern.now c.args.generation g.W.Write.contents c.args.output.now, c.requires.output)
