-- Cells, their order, and finite sets of cells as ordered lists (LifeWiki, "Conway's Game of Life").
use Rattle.std.specs.Prelude.{◌≡◌, ◌==◌, ◌+◌, ℕ, ℤ, ◌+ℤ◌, Bool, true, not, ◌&&◌, ◌||◌, List, [], ◌∷◌, max, nat_le, unsigned_abs}
use Rattle.std.specs.List.{list_any, list_all}
use Rattle.std.specs.List.Sorted.{IsStrictlySortedBy}
use Rattle.std.specs.declared.cmp.Ordering.{Ordering}
use Rattle.std.specs.Ordering.{ordering_then, int_cmp, is_eq, match_ordering}
use Rattle.plane_core.specs.declared.plane.cell.Cell.{Cell}
use lib.IntN.{◌-ℤ◌}

-- the largest absolute value that a coordinate has on the plane: this project's choice
abbrev pub plane_bound : ℕ
plane_bound = 1000000

-- the cell at column x of row y
abbrev pub cell_at : ℤ → ℤ → Cell
cell_at x y = record { y = y; x = x }

-- the order of cells: row by row from the top, and each row from the left
abbrev pub cell_cmp : Cell → Cell → Ordering
cell_cmp a b = ordering_then (int_cmp a.y b.y) (int_cmp a.x b.x)

-- the two are the same cell
abbrev pub same_cell : Cell → Cell → Bool
same_cell a b = is_eq (cell_cmp a b)

-- the cell is in the list
abbrev pub has : List Cell → Cell → Bool
has cells c = list_any (same_cell c) cells

-- the cells are in order, each once
abbrev pub InOrder : List Cell → Type 0
InOrder cells = IsStrictlySortedBy cell_cmp cells

-- how far apart two coordinates are
abbrev pub distance : ℤ → ℤ → ℕ
distance a b = unsigned_abs (a -ℤ b)

-- the larger of the distances in x and in y
abbrev pub king_distance : Cell → Cell → ℕ
king_distance a b = max (distance a.x b.x) (distance a.y b.y)

-- the cell (x + dx, y + dy)
abbrev pub moved_by : ℤ → ℤ → Cell → Cell
moved_by dx dy c = cell_at (c.x +ℤ dx) (c.y +ℤ dy)

-- the ordered list with c inserted in its place, or unchanged if c is already a member
abbrev pub put : Cell → List Cell → List Cell
put c [] = c ∷ []
put c (d ∷ ds) = match_ordering (cell_cmp c d) (c ∷ d ∷ ds) (d ∷ ds) (d ∷ put c ds)

-- the set of a list's cells: the same cells in order, each once
abbrev pub set_of : List Cell → List Cell
set_of [] = []
set_of (c ∷ cs) = put c (set_of cs)

-- the absolute value of each coordinate is at most `reach`
abbrev pub is_within : ℕ → Cell → Bool
is_within reach c = nat_le (unsigned_abs c.x) reach && nat_le (unsigned_abs c.y) reach

-- the cell is on the plane: each coordinate is within the bound
unfoldable pub on_plane : Cell → Bool
on_plane c = is_within plane_bound c

-- the cell is off the plane
abbrev pub off_plane : Cell → Bool
off_plane c = not (on_plane c)

-- the cell is on the plane or at most one step off it
unfoldable pub near_plane : Cell → Bool
near_plane c = is_within (plane_bound + 1) c

-- the cell is on the edge of the plane: the absolute value of a coordinate is the bound
unfoldable pub on_edge : Cell → Bool
on_edge c = unsigned_abs c.x == plane_bound || unsigned_abs c.y == plane_bound

-- a list that stands for a finite set of cells of the plane
pub record IsPattern (cells : List Cell) : Type 0 where
  pub in_order : InOrder cells
  pub on_plane : list_all on_plane cells ≡ true

-- two ordered lists with the same members are equal, so each set of cells has a unique list
abbrev pub SetsHaveOneList : Type 0
SetsHaveOneList = (S T : List Cell) → InOrder S → InOrder T → ((c : Cell) → has S c ≡ has T c) → S ≡ T
