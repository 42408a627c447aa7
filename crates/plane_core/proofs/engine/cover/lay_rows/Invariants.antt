use Rattle.std.proofs.Common.{◌+◌, ◌-◌, ◌≤◌, ◌+ℤ◌, ◌<ℤ◌, pos}
use Rattle.plane_core.specs.declared.plane.cell.Cell.{Cell}
use Rattle.plane_core.specs.plane.Bounds.{IsWithin}
use Rattle.plane_core.specs.engine.LeapWindows.{IsCovered}
use Rattle.plane_core.proofs.engine.cover.lay_rows.Given as goal

abbrev pub invariant-loop-laid : goal.invariant-loop-laid
invariant-loop-laid l = record {
  few : l.laid ≤ l.length + 64;
  kept : (c : Cell) → IsCovered l.fn.windows.items c → IsCovered l.windows.items c;
  laid : (c : Cell) → IsWithin l.fn.rectangle c → c.y <ℤ (l.down.first +ℤ pos l.laid) → IsCovered l.windows.items c;
}

abbrev pub decreases-loop-laid : goal.decreases-loop-laid
decreases-loop-laid l = l.length + 65 - l.laid
