-- How far influence reaches: after k generations, the state of a cell depends only on the cells that are at most k from
-- it.
use Rattle.std.specs.Prelude.{◌≡◌, ◌≤◌, ℕ, ◌+ℤ◌, ◌-ℤ◌, pos, List}
use Rattle.plane_core.specs.declared.plane.bounds.Bounds.{Bounds}
use Rattle.plane_core.specs.declared.plane.cell.Cell.{Cell}
use Rattle.plane_core.specs.plane.Bounds.{IsWithin}
use Rattle.plane_core.specs.plane.Cells.{InOrder, has, king_distance}
use Rattle.plane_core.specs.plane.Generations.{after}
use Rattle.plane_core.specs.plane.Rules.{Numbers}

-- the box with n fewer columns and rows on each side
abbrev pub narrowed : ℕ → Bounds → Bounds
narrowed n b = record { left = b.left +ℤ pos n; top = b.top +ℤ pos n; right = b.right -ℤ pos n; bottom = b.bottom -ℤ pos n }

-- if two patterns agree in all cells that are at most k from a cell, they agree in that cell after k generations
abbrev pub SeesNoFurther : Type 0
SeesNoFurther = (rule : Numbers) (one other : List Cell) (k : ℕ) (c : Cell) → InOrder one → InOrder other
    → ((d : Cell) → king_distance c d ≤ k → has one d ≡ has other d) → has (after rule one k) c ≡ has (after rule other k) c

-- If two patterns agree in a box, then after k generations they agree in each cell that is k or more columns and rows
-- inside the sides of the box. For example, one pattern may be the part of the other that is in the box.
abbrev pub RightInside : Type 0
RightInside = (rule : Numbers) (one other : List Cell) (b : Bounds) (k : ℕ) → InOrder one → InOrder other
    → ((d : Cell) → IsWithin b d → has one d ≡ has other d) → (c : Cell) → IsWithin (narrowed k b) c → has (after rule one k) c ≡ has (after rule other k) c
