use Rattle.plane_core.proofs.lemmas.plane.CoordinateLemmas.{moved_in_reach}
use Rattle.plane_core.proofs.engine.leap_window.LeapWindow.row.Goals as goal

pub overflow_cast-result : goal.overflow_cast-result
overflow_cast-result c = (moved_in_reach c.args.self.top c.args.r c.requires.reach.top c.requires.r).step

pub overflow_add-result : goal.overflow_add-result
overflow_add-result c = (moved_in_reach c.args.self.top c.args.r c.requires.reach.top c.requires.r).fits

pub returns : goal.returns
returns c = (moved_in_reach c.args.self.top c.args.r c.requires.reach.top c.requires.r).is
