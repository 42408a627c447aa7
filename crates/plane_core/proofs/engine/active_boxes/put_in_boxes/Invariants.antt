use Rattle.std.proofs.Common.{◌≡◌, ℕ, take, true}
use Rattle.std.specs.List.{All}
use Rattle.plane_core.specs.declared.plane.cell.Cell.{Cell}
use Rattle.plane_core.specs.engine.ActiveBoxes.{AreWider, IsInOne}
use Rattle.plane_core.specs.plane.Generations.{lies_within}
use Rattle.plane_core.specs.plane.Bounds.{AreSidesWithin}
use Rattle.plane_core.proofs.engine.active_boxes.put_in_boxes.Given as goal

abbrev pub invariant-loop-cell : goal.invariant-loop-cell
invariant-loop-cell l = record {
  held : All (λ (c : Cell). IsInOne l.boxes.items c) (take l.cell-index l.cells);
  wider : AreWider l.fn.boxes.items l.boxes.items;
  sides : (n : ℕ) → lies_within n l.cells ≡ true → All (AreSidesWithin n) l.fn.boxes.items → All (AreSidesWithin n) l.boxes.items;
}
