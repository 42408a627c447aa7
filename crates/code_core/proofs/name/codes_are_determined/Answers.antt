use Rattle.code_core.proofs.CodeLaws.{codes_are_determined}
use Rattle.code_core.proofs.name.codes_are_determined.Goals as goal

pub returns : goal.returns
returns c = codes_are_determined
