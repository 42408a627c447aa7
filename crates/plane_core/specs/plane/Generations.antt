-- Generations under a rule (LifeWiki, "Life-like cellular automaton").
use Rattle.std.specs.Prelude.{◌≡◌, ◌≢◌, ◌+◌, ◌-◌, ◌≤◌, true, ◌==◌, ℕ, ℤ, zero, suc, pos, negsuc, Bool, List, [], ◌∷◌, All, count_by, filter, flat_map, if◌then◌else◌}
use Rattle.std.specs.List.{list_any, list_all}
use Rattle.plane_core.specs.declared.plane.cell.Cell.{Cell}
use Rattle.plane_core.specs.plane.Cells.{InOrder, king_distance, moved_by, has, set_of, on_edge, is_within}
use Rattle.plane_core.specs.declared.plane.orientation.Orientation.{Orientation}
use Rattle.plane_core.specs.declared.plane.bounds.Bounds.{Bounds}
use Rattle.plane_core.specs.plane.Bounds.{IsWithin, enlarged, shifted}
use Rattle.plane_core.specs.plane.Orientations.{image}
use Rattle.plane_core.specs.plane.Rules.{Numbers, is_birth, is_survival}

-- the number of live neighbours of c: the cells of the pattern at king distance 1 from c
abbrev pub around : List Cell → Cell → ℕ
around cells c = count_by (λ d. king_distance c d == 1) cells

-- c is alive one generation later: either it is alive and survives, or it is dead and is born
abbrev pub lives : Numbers → List Cell → Cell → Bool
lives rule cells c = if has cells c then is_survival rule (around cells c) else is_birth rule (around cells c)

-- a cell is alive in the next generation; `count` is the number of live cells in its neighbourhood, including itself
abbrev pub lives_by : Numbers → ℕ → Bool → Bool
lives_by rule count alive = if alive then is_survival rule (count - 1) else is_birth rule count

-- three cells of a row: the left neighbour of c, c itself, and its right neighbour
abbrev pub triple : Cell → List Cell
triple c = moved_by (negsuc 0) (pos 0) c ∷ c ∷ moved_by (pos 1) (pos 0) c ∷ []

-- the neighbourhood of c: the nine cells at king distance at most 1, in three rows of three
abbrev pub neighbourhood : Cell → List Cell
neighbourhood c = flat_map triple (moved_by (pos 0) (negsuc 0) c ∷ c ∷ moved_by (pos 0) (pos 1) c ∷ [])

-- the next generation: the cells that are alive then, all of them in neighbourhoods of the pattern's cells
unfoldable pub next : Numbers → List Cell → List Cell
next rule cells = filter (lives rule cells) (set_of (flat_map neighbourhood cells))

-- the pattern after g generations
unfoldable pub after : Numbers → List Cell → ℕ → List Cell
after rule cells zero = cells
after rule cells (suc g) = next rule (after rule cells g)

-- a cell of the pattern is on the edge of the plane, so that a neighbour is off the plane
abbrev pub touches_edge : List Cell → Bool
touches_edge cells = list_any on_edge cells

-- every coordinate of the pattern has an absolute value of at most `reach`
abbrev pub lies_within : ℕ → List Cell → Bool
lies_within reach cells = list_all (is_within reach) cells

-- the pattern doesn't recur within n generations: none of the generations from 1 to n is a translate of it
abbrev pub NeverRecurs : Numbers → List Cell → ℕ → Type 0
NeverRecurs rule cells n = (p : ℕ) (dx dy : ℤ) → 1 ≤ p → p ≤ n → after rule cells p ≢ shifted dx dy cells

-- a cell is alive in the next generation if and only if the rule's numbers say so
abbrev pub CellsFollowTheRule : Type 0
CellsFollowTheRule = (rule : Numbers) (cells : List Cell) (c : Cell) → has (next rule cells) c ≡ lives rule cells c

-- moving a pattern moves its next generation by the same amount
abbrev pub NextMoved : Type 0
NextMoved = (dx dy : ℤ) (rule : Numbers) (cells : List Cell) → InOrder cells → next rule (shifted dx dy cells) ≡ shifted dx dy (next rule cells)

-- turning a pattern turns its next generation in the same way
abbrev pub NextTurned : Type 0
NextTurned = (o : Orientation) (rule : Numbers) (cells : List Cell) → InOrder cells → next rule (image o cells) ≡ image o (next rule cells)

-- The speed of light: no pattern grows by more than one cell on each side in a generation. So if a pattern is in a box,
-- after g generations it is in that box with g more columns and rows on each side.
abbrev pub SpeedOfLight : Type 0
SpeedOfLight = (rule : Numbers) (cells : List Cell) (b : Bounds) (g : ℕ) → All (IsWithin b) cells → All (IsWithin (enlarged g b)) (after rule cells g)

-- a pattern within `reach` of the origin is within `reach` + g of it after g generations
abbrev pub SpeedFromOrigin : Type 0
SpeedFromOrigin = (rule : Numbers) (cells : List Cell) (reach g : ℕ) → lies_within reach cells ≡ true → lies_within (reach + g) (after rule cells g) ≡ true

-- each cell that is alive after g generations is within king distance g of a cell that was alive at the start
abbrev pub SpeedOfCells : Type 0
SpeedOfCells = (rule : Numbers) (cells : List Cell) (g : ℕ) (c : Cell) → has (after rule cells g) c ≡ true
    → (d : Cell) × (has cells d ≡ true) × (king_distance c d ≤ g)
