use Rattle.std.proofs.Common.{take}
use Rattle.plane_core.specs.declared.plane.cell.Cell.{Cell}
use Rattle.plane_core.specs.engine.ActiveBoxes.{IsInOne}
use Rattle.plane_core.specs.engine.LeapWindows.{IsCovered}
use Rattle.plane_core.proofs.engine.cover.cover.Given as goal

abbrev pub invariant-loop-rectangle : goal.invariant-loop-rectangle
invariant-loop-rectangle l = (c : Cell) → IsInOne (take l.rectangle-index l.rectangle-items) c → IsCovered l.windows.items c
