use Rattle.std.proofs.Common.{◌-◌, ◌≤◌}
use Rattle.plane_core.specs.engine.Directions.{GoesDeeper}
use Rattle.plane_core.specs.engine.OnBoard.{cells_on}
use Rattle.plane_core.specs.plane.Without.{without}
use Rattle.plane_core.proofs.lemmas.engine.DirectionLemmas.{AreSeen}
use Rattle.plane_core.proofs.engine.board.reach.deepest_in_word_column.Given as goal

abbrev pub invariant-loop-step : goal.invariant-loop-step
invariant-loop-step l = record {
  most : l.step ≤ l.rows.end - l.rows.from;
  deeper : GoesDeeper l.way (without (cells_on l.at l.words) l.gone) l.fn.found l.deepest;
  seen : AreSeen l.at l.way (without (cells_on l.at l.words) l.gone) l.word_column l.rows l.step l.deepest;
}

abbrev pub decreases-loop-step : goal.decreases-loop-step
decreases-loop-step l = l.rows.end - l.rows.from - l.step
