use Rattle.code_core.proofs.CodeLaws.{codes_have_their_shape}
use Rattle.code_core.proofs.name.codes_have_their_shape.Goals as goal

pub returns : goal.returns
returns c = codes_have_their_shape
