use Rattle.std.proofs.Common.{take}
use Rattle.plane_core.specs.engine.Frames.{Shows}
use Rattle.plane_core.specs.engine.RowSpans.{LieInSpans}
use Rattle.plane_core.proofs.engine.loading.fill.Given as goal

abbrev pub invariant-loop-cell : goal.invariant-loop-cell
invariant-loop-cell l = record { shown : Shows l.at l.words (take l.cell-index l.cells); held : LieInSpans l.at l.spans (take l.cell-index l.cells) }
