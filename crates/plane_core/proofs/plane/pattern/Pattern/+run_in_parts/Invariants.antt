use Rattle.std.proofs.Common.{◌*◌, ◌+◌}
use Rattle.plane_core.proofs.plane.pattern.Pattern.+run_in_parts.Given as goal

abbrev pub decreases-run_in_parts : goal.decreases-run_in_parts
decreases-run_in_parts l = 3 * l.cuts

abbrev pub decreases-run_side : goal.decreases-run_side
decreases-run_side l = 3 * l.cuts + 1

abbrev pub decreases-run_sides : goal.decreases-run_sides
decreases-run_sides l = 3 * l.cuts + 2
