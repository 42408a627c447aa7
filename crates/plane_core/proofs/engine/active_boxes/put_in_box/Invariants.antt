use Rattle.std.proofs.Common.{◌≡◌, ◌-◌, ◌≤◌, vec_len}
use Rattle.plane_core.proofs.engine.active_boxes.put_in_box.Given as goal

abbrev pub invariant-loop-i : goal.invariant-loop-i
invariant-loop-i l = record { same : l.boxes.items ≡ l.fn.boxes.items; within : l.i ≤ vec_len l.boxes }

abbrev pub decreases-loop-i : goal.decreases-loop-i
decreases-loop-i l = l.i - l.earliest
