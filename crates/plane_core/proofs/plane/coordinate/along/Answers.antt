use Rattle.plane_core.proofs.lemmas.plane.CoordinateLemmas.{moved_on_plane}
use Rattle.plane_core.proofs.plane.coordinate.along.Goals as goal

pub overflow_cast-result : goal.overflow_cast-result
overflow_cast-result c = (moved_on_plane c.args.from c.args.cells c.requires.from c.requires.cells).step

pub overflow_add-result : goal.overflow_add-result
overflow_add-result c = (moved_on_plane c.args.from c.args.cells c.requires.from c.requires.cells).fits

pub returns : goal.returns
returns c = (moved_on_plane c.args.from c.args.cells c.requires.from c.requires.cells).is
