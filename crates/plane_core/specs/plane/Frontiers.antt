-- Frontiers: how far a pattern reaches in a diagonal direction, and how slowly they advance under rules such as Life.
use Rattle.std.specs.Prelude.{◌≡◌, ◌+◌, ◌*◌, ◌||◌, ℕ, ℤ, pos, ◌+ℤ◌, ◌*ℤ◌, ◌≤ℤ◌, Bool, true, not, List}
use Rattle.plane_core.specs.declared.plane.cell.Cell.{Cell}
use Rattle.plane_core.specs.declared.plane.orientation.Orientation.{Orientation}
use Rattle.plane_core.specs.plane.Cells.{InOrder, has}
use Rattle.plane_core.specs.plane.Generations.{after}
use Rattle.plane_core.specs.plane.Orientations.{turned_cell}
use Rattle.plane_core.specs.plane.Rules.{Numbers, is_birth, is_survival}

-- the depth of a cell: the sum of its column and its row
abbrev pub depth : Cell → ℤ
depth c = c.x +ℤ c.y

-- when the pattern is turned by the orientation, each of its cells has a depth of at most m
abbrev pub LiesUpTo : Orientation → ℤ → List Cell → Type 0
LiesUpTo o m cells = (c : Cell) → has cells c ≡ true → depth (turned_cell o c) ≤ℤ m

-- the rule's frontiers are slow: nothing is born on 1 or 2 neighbours, and nothing survives on 4 or 5
abbrev pub is_slow : Numbers → Bool
is_slow rule = not (is_birth rule 1 || is_birth rule 2 || is_survival rule 4 || is_survival rule 5)

-- under a slow rule, the largest depth of a pattern in a diagonal direction grows by at most n / 2, rounded up, in n
-- generations
abbrev pub FrontiersAreSlow : Type 0
FrontiersAreSlow = (rule : Numbers) (o : Orientation) (m : ℤ) (cells : List Cell) (n : ℕ) → InOrder cells → is_slow rule ≡ true → LiesUpTo o m cells
    → (c : Cell) → has (after rule cells n) c ≡ true → (pos 2 *ℤ depth (turned_cell o c)) ≤ℤ ((pos 2 *ℤ m) +ℤ pos (n + 1))

-- under a slow rule, the largest depth of a pattern in a diagonal direction grows by at most k in 2k generations
abbrev pub FrontiersGoOn : Type 0
FrontiersGoOn = (rule : Numbers) (o : Orientation) (m : ℤ) (cells : List Cell) (k : ℕ) → InOrder cells → is_slow rule ≡ true → LiesUpTo o m cells
    → LiesUpTo o (m +ℤ pos k) (after rule cells (2 * k))
