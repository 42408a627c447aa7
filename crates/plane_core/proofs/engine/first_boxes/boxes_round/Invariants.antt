use Rattle.std.proofs.Common.{◌≡◌, ◌⊎◌, ℕ, take, true}
use Rattle.std.specs.List.{All}
use Rattle.plane_core.specs.declared.plane.cell.Cell.{Cell}
use Rattle.plane_core.specs.plane.Bounds.{AreSidesWithin, IsWithin}
use Rattle.plane_core.specs.engine.ActiveBoxes.{IsInOne}
use Rattle.plane_core.specs.plane.Generations.{lies_within}
use Rattle.plane_core.proofs.engine.first_boxes.boxes_round.Given as goal

abbrev pub invariant-loop-cell : goal.invariant-loop-cell
invariant-loop-cell l = record {
  held : All (λ (c : Cell). IsWithin l.run c ⊎ IsInOne l.boxes.items c) (take l.cell-index l.cells);
  run_sides : (n : ℕ) → lies_within n l.cells ≡ true → AreSidesWithin n l.run;
  sides : (n : ℕ) → lies_within n l.cells ≡ true → All (AreSidesWithin n) l.boxes.items;
}
