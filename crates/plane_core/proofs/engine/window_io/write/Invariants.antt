use Rattle.std.proofs.Common.{◌-◌, ◌≤◌}
use Rattle.plane_core.specs.engine.WindowIo.{IsPutBack}
use Rattle.plane_core.proofs.engine.window_io.write.Given as goal

abbrev pub invariant-loop-r : goal.invariant-loop-r
invariant-loop-r l = (4 ≤ l.r) × (l.r ≤ l.end) × IsPutBack l.at l.x l.y l.r l.rows l.fn.words l.words

abbrev pub decreases-loop-r : goal.decreases-loop-r
decreases-loop-r l = l.end - l.r

abbrev pub invariant-loop-r-2 : goal.invariant-loop-r-2
invariant-loop-r-2 l = (4 ≤ l.r) × (l.r ≤ l.end) × IsPutBack l.at l.x l.y l.r l.rows l.fn.words l.words

abbrev pub decreases-loop-r-2 : goal.decreases-loop-r-2
decreases-loop-r-2 l = l.end - l.r
