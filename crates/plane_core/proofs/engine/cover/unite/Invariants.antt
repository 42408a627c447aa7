use Rattle.std.proofs.Common.{take}
use Rattle.std.specs.List.{All}
use Rattle.plane_core.specs.declared.plane.cell.Cell.{Cell}
use Rattle.plane_core.specs.engine.ActiveBoxes.{IsInOne, IsNearOne, rectangle_bound}
use Rattle.plane_core.specs.plane.Bounds.{AreSidesWithin}
use Rattle.plane_core.proofs.engine.cover.unite.Given as goal

abbrev pub invariant-loop-bounds : goal.invariant-loop-bounds
invariant-loop-bounds l = record {
  near : (c : Cell) → IsNearOne 4 (take l.bounds-index l.boxes) c → IsInOne l.rectangles.items c;
  sides : All (AreSidesWithin rectangle_bound) l.rectangles.items;
}
