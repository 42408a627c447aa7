use Rattle.plane_core.proofs.lemmas.plane.CoordinateLemmas.{moved_back}
use Rattle.plane_core.proofs.plane.coordinate.back.Goals as goal

pub overflow_cast-result : goal.overflow_cast-result
overflow_cast-result c = (moved_back c.args.from c.args.cells c.requires.from c.requires.cells).step

pub overflow_sub-result : goal.overflow_sub-result
overflow_sub-result c = (moved_back c.args.from c.args.cells c.requires.from c.requires.cells).fits

pub returns : goal.returns
returns c = (moved_back c.args.from c.args.cells c.requires.from c.requires.cells).is
