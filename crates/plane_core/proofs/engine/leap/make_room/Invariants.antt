use Rattle.std.proofs.Common.{◌-◌, ◌≤◌, vec_len}
use Rattle.plane_core.proofs.engine.leap.make_room.Given as goal

abbrev pub invariant-loop-held : goal.invariant-loop-held
invariant-loop-held l = vec_len l.initial.held ≤ vec_len l.held

abbrev pub decreases-loop-held : goal.decreases-loop-held
decreases-loop-held l = l.count - vec_len l.held
