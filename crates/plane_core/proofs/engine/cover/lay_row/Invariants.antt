use Rattle.plane_core.specs.declared.plane.cell.Cell.{Cell}
use Rattle.plane_core.specs.engine.Covers.{IsInRow}
use Rattle.plane_core.specs.engine.LeapWindows.{IsCovered}
use Rattle.plane_core.proofs.engine.cover.lay_row.Given as goal

abbrev pub invariant-loop-i : goal.invariant-loop-i
invariant-loop-i l = record {
  kept : (c : Cell) → IsCovered l.fn.windows.items c → IsCovered l.windows.items c;
  laid : (c : Cell) → IsInRow (record { first = l.across.first; count = l.i }) l.top l.rows c → IsCovered l.windows.items c;
}
