use Rattle.std.proofs.Common.{◌-◌, ◌≤◌}
use Rattle.plane_core.proofs.lemmas.engine.DirectionLemmas.{AreDeadRows}
use Rattle.plane_core.proofs.engine.board.reach.next_live.Given as goal

abbrev pub invariant-loop-step : goal.invariant-loop-step
invariant-loop-step l = record {
  later : l.fn.from ≤ l.step;
  dead : AreDeadRows l.at l.way l.words l.word_column l.rows l.fn.from l.step;
}

abbrev pub decreases-loop-step : goal.decreases-loop-step
decreases-loop-step l = l.end - l.step
