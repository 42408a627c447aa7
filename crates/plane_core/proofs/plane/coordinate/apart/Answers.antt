use Rattle.std.proofs.Common.{◌∙◌, ap, unsigned_abs}
use Rattle.plane_core.proofs.lemmas.plane.CoordinateLemmas.{difference_of}
use Rattle.plane_core.proofs.plane.coordinate.apart.Goals as goal

pub overflow_sub-a : goal.overflow_sub-a
overflow_sub-a c = (difference_of c.args.a c.args.b c.requires.a c.requires.b).fits

pub returns : goal.returns
returns c = c.unsigned_abs.ensures.value ∙ ap unsigned_abs (difference_of c.args.a c.args.b c.requires.a c.requires.b).is
