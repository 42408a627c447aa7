use Rattle.std.proofs.Common.{◌-◌, ◌≤◌, ◌⊎◌, vec_len}
use Rattle.std.specs.List.{All}
use Rattle.plane_core.specs.declared.plane.cell.Cell.{Cell}
use Rattle.plane_core.specs.plane.Bounds.{IsWithin}
use Rattle.plane_core.specs.engine.ActiveBoxes.{IsInOne, rectangle_bound}
use Rattle.plane_core.specs.plane.Bounds.{AreSidesWithin}
use Rattle.plane_core.proofs.engine.cover.absorbed.Given as goal

abbrev pub invariant-loop-i : goal.invariant-loop-i
invariant-loop-i l = record {
  held : (c : Cell) → IsWithin l.fn.rectangle c ⊎ IsInOne l.fn.rectangles.items c → IsWithin l.all c ⊎ IsInOne l.rectangles.items c;
  all_sides : All (AreSidesWithin rectangle_bound) l.rectangles.items;
  sides : AreSidesWithin rectangle_bound l.all;
  within : l.i ≤ vec_len l.rectangles;
}

abbrev pub decreases-loop-i : goal.decreases-loop-i
decreases-loop-i l = l.i - l.earliest
