use Rattle.plane_core.proofs.lemmas.plane.GenerationLemmas.{has-next}
use Rattle.plane_core.proofs.generation.cells_follow_the_rule.Goals as goal

pub returns : goal.returns
returns c = has-next
