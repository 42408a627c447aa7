use Rattle.laws.proofs.CodeLemmas.{codes_are_faithful}
use Rattle.laws.proofs.codes.codes_are_faithful.Goals as goal

pub returns : goal.returns
returns c = codes_are_faithful
