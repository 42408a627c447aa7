-- How a writer of plaintext walks along the cells of a box.
use Rattle.std.specs.Prelude.{ℤ, pos, ◌≤ℤ◌, List}
use Rattle.std.specs.List.{AllByRecursion}
use Rattle.plane_core.specs.declared.plane.cell.Cell.{Cell}
use Rattle.plane_core.specs.declared.plane.bounds.Bounds.{Bounds}
use Rattle.plane_core.specs.plane.Cells.{plane_bound, InOrder}
use lib.IntN.{neg_ℤ}

-- the box has at least one cell, and all its cells are on the plane
pub record IsBox (b : Bounds) : Type 0 where
  pub left : neg_ℤ (pos plane_bound) ≤ℤ b.left
  pub top : neg_ℤ (pos plane_bound) ≤ℤ b.top
  pub right : b.right ≤ℤ pos plane_bound
  pub bottom : b.bottom ≤ℤ pos plane_bound
  pub wide : b.left ≤ℤ b.right
  pub high : b.top ≤ℤ b.bottom

-- the remaining cells of a walk at row y: in order, none above row y, and all in the columns of the box
pub record IsAhead (y : ℤ) (b : Bounds) (cells : List Cell) : Type 0 where
  pub in_order : InOrder cells
  pub rows : AllByRecursion (λ c. y ≤ℤ c.y) cells
  pub columns : AllByRecursion (λ c. (b.left ≤ℤ c.x) × (c.x ≤ℤ b.right)) cells
