use Rattle.std.proofs.Common.{◌+◌, ◌-◌, ◌≤◌}
use Rattle.plane_core.specs.engine.NextListing.{HasListedAbove}
use Rattle.plane_core.specs.engine.OnBoard.{cells_on}
use Rattle.plane_core.specs.plane.Generations.{after}
use Rattle.plane_core.specs.windows.RuleLogic.{rule_of}
use Rattle.plane_core.proofs.engine.board.next_pattern.list_next.Given as goal

abbrev pub invariant-loop-y : goal.invariant-loop-y
invariant-loop-y l = record {
  low : l.y ≤ l.at.rows;
  listed : HasListedAbove l.at (l.y + 4) (after (rule_of l.rule) (cells_on l.at l.words) 1) l.cells.items;
}

abbrev pub decreases-loop-y : goal.decreases-loop-y
decreases-loop-y l = l.hull.rows.end + 32 - l.y
