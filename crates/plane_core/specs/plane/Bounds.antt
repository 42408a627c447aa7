-- The smallest box around a pattern, and a pattern moved to the corner (0, 0).
use Rattle.std.specs.Prelude.{◌≡◌, ◌≤◌, unsigned_abs, ℕ, ℤ, ◌+ℤ◌, ◌≤ℤ◌, List, [], ◌∷◌, Option, None, Some, All, Any, map, ◌≢◌, pos, IfSome, IfNone}
use Rattle.std.specs.Int.{int_min, int_max}
use Rattle.plane_core.specs.declared.plane.cell.Cell.{Cell}
use Rattle.plane_core.specs.declared.plane.bounds.Bounds.{Bounds}
use Rattle.plane_core.specs.plane.Cells.{moved_by}
use lib.IntN.{◌-ℤ◌, neg_ℤ}

-- the box of one cell
abbrev pub box_at : Cell → Bounds
box_at c = record { left = c.x; top = c.y; right = c.x; bottom = c.y }

-- the smallest box that contains the box and the cell
abbrev pub widened : Cell → Bounds → Bounds
widened c b = record { left = int_min c.x b.left; top = int_min c.y b.top; right = int_max c.x b.right; bottom = int_max c.y b.bottom }

-- the smallest box that contains the cell and, if there is one, the box
abbrev pub grown : Cell → Option Bounds → Bounds
grown c None = box_at c
grown c (Some b) = widened c b

-- the smallest box around the cells, if there are any
abbrev pub box_of : List Cell → Option Bounds
box_of [] = None
box_of (c ∷ cs) = Some (grown c (box_of cs))

-- the cell is in the box
pub record IsWithin (b : Bounds) (c : Cell) : Type 0 where
  pub left : b.left ≤ℤ c.x
  pub top : b.top ≤ℤ c.y
  pub right : c.x ≤ℤ b.right
  pub bottom : c.y ≤ℤ b.bottom

-- the box with n more columns and rows on each side
abbrev pub enlarged : ℕ → Bounds → Bounds
enlarged n b = record { left = b.left -ℤ pos n; top = b.top -ℤ pos n; right = b.right +ℤ pos n; bottom = b.bottom +ℤ pos n }

-- b is the smallest box that contains both boxes
pub record IsRoundBoth (one other b : Bounds) : Type 0 where
  pub left : b.left ≡ int_min one.left other.left
  pub top : b.top ≡ int_min one.top other.top
  pub right : b.right ≡ int_max one.right other.right
  pub bottom : b.bottom ≡ int_max one.bottom other.bottom

-- the box contains every cell, and each of its four sides has a cell on it
pub record IsLeastBox (cells : List Cell) (b : Bounds) : Type 0 where
  pub within : All (IsWithin b) cells
  pub left : Any (λ c. c.x ≡ b.left) cells
  pub top : Any (λ c. c.y ≡ b.top) cells
  pub right : Any (λ c. c.x ≡ b.right) cells
  pub bottom : Any (λ c. c.y ≡ b.bottom) cells

-- each side of the box is at most `reach` from the origin
pub record AreSidesWithin (reach : ℕ) (b : Bounds) : Type 0 where
  pub left : unsigned_abs b.left ≤ reach
  pub top : unsigned_abs b.top ≤ reach
  pub right : unsigned_abs b.right ≤ reach
  pub bottom : unsigned_abs b.bottom ≤ reach

-- the pattern moved by (dx, dy): each cell is moved
abbrev pub shifted : ℤ → ℤ → List Cell → List Cell
shifted dx dy cells = map (moved_by dx dy) cells

-- the cells moved so that the corner of their box is (0, 0)
abbrev pub cornered : Option Bounds → List Cell → List Cell
cornered None cells = []
cornered (Some b) cells = shifted (neg_ℤ b.left) (neg_ℤ b.top) cells

-- the pattern moved so that its smallest x and its smallest y are 0
abbrev pub at_corner : List Cell → List Cell
at_corner cells = cornered (box_of cells) cells

-- `found` is the displacement that moves S to T, or `None` if there isn't one. If S is nonempty, the displacement is
-- unique. If S and T are empty, `found` is (0, 0).
pub record FindsShift (S T : List Cell) (found : Option (ℤ × ℤ)) : Type 0 where
  pub some : IfSome found (λ v. shifted v.0 v.1 S ≡ T)
  pub none : IfNone found ((dx dy : ℤ) → shifted dx dy S ≢ T)
  pub only : (dx dy : ℤ) → S ≢ [] → shifted dx dy S ≡ T → found ≡ Some (dx, dy)
  pub empty : S ≡ [] → T ≡ [] → found ≡ Some (pos 0, pos 0)
