use Rattle.plane_core.proofs.lemmas.plane.CoordinateLemmas.{step_of}
use Rattle.plane_core.proofs.plane.coordinate.stepped.Goals as goal

pub overflow_add-result : goal.overflow_add-result
overflow_add-result c = (step_of c.args.at c.args.step c.requires.at c.requires.step).fits

pub returns : goal.returns
returns c = (step_of c.args.at c.args.step c.requires.at c.requires.step).is
