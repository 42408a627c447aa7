use Rattle.plane_core.specs.engine.OnBoard.{cells_on}
use Rattle.plane_core.specs.plane.Without.{without}
use Rattle.plane_core.proofs.lemmas.engine.DirectionLemmas.{AreWordColumnsSeen}
use Rattle.plane_core.proofs.engine.board.Board.frontier_without.Given as goal

abbrev pub invariant-loop-word_column : goal.invariant-loop-word_column
invariant-loop-word_column l = AreWordColumnsSeen l.at l.direction (without (cells_on l.at l.words) l.gone) l.word_column l.found
