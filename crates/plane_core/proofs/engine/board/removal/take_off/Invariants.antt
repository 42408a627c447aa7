use Rattle.std.proofs.Common.{take}
use Rattle.plane_core.specs.engine.Frames.{Shows}
use Rattle.plane_core.specs.engine.OnBoard.{cells_on}
use Rattle.plane_core.specs.plane.Without.{without}
use Rattle.plane_core.proofs.engine.board.removal.take_off.Given as goal

abbrev pub invariant-loop-cell : goal.invariant-loop-cell
invariant-loop-cell l = Shows l.at l.words (without (cells_on l.at l.fn.words) (take l.cell-index l.cells))
