use Rattle.plane_core.proofs.lemmas.plane.CoordinateLemmas.{difference_of}
use Rattle.plane_core.proofs.plane.coordinate.difference.Goals as goal

pub overflow_sub-result : goal.overflow_sub-result
overflow_sub-result c = (difference_of c.args.to c.args.from c.requires.to c.requires.from).fits

pub returns : goal.returns
returns c = (difference_of c.args.to c.args.from c.requires.to c.requires.from).is
