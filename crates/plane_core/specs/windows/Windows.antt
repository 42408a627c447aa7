-- Windows: n vectors, so 4 n rows of 64 columns. Row r is lane r / n of vector r % n.
use Rattle.std.specs.Prelude.{◌≡◌, ◌==◌, ◌+◌, ◌*◌, ◌/◌, ◌%◌, ◌<◌, ◌≤◌, ℕ, ℤ, zero, suc, ◌+ℤ◌, pos, List, [], set, slice_index, slice_index_or, if◌then◌else◌}
use Rattle.std.specs.Int.{bit_at}
use Rattle.plane_core.specs.declared.plane.cell.Cell.{Cell}
use Rattle.plane_core.specs.plane.Cells.{InOrder, cell_at, has}
use Rattle.plane_core.specs.declared.windows.lane_sums.RowSums.{RowSums}
use Rattle.plane_core.specs.declared.windows.lane_sums.Sum.{Sum}
use Rattle.plane_core.specs.windows.LaneSums.{AnswersRows, AreBeside, row_sum, sum_of}
use Rattle.plane_core.specs.plane.Rules.{Numbers}
use Rattle.plane_core.specs.plane.Generations.{after, lives_by}
use Rattle.plane_core.specs.windows.Words.{one_if}

-- lane j of vector k
abbrev pub lane_at : List (List ℕ) → ℕ → ℕ → ℕ
lane_at x k j = slice_index (slice_index_or x k []) j

-- row r of a window of n vectors
abbrev pub row_at : ℕ → List (List ℕ) → ℕ → ℕ
row_at n x r = lane_at x (r % n) (r / n)

-- the row above row r, or an empty row if r is the first row
abbrev pub row_above : ℕ → List (List ℕ) → ℕ → ℕ
row_above n x zero = 0
row_above n x (suc r) = row_at n x r

-- the row below row r, or an empty row if r is the last row
abbrev pub row_below : ℕ → List (List ℕ) → ℕ → ℕ
row_below n x r = if r + 1 == 4 * n then 0 else row_at n x (r + 1)

-- `next` is the row `here` one generation later, if nothing is alive beside the three rows
abbrev pub IsNextRow : Numbers → ℕ → ℕ → ℕ → ℕ → Type 0
IsNextRow rule above here below next =
    (i : ℕ) → i < 64 → bit_at next i ≡ one_if (lives_by rule (row_sum above i + row_sum here i + row_sum below i) (bit_at here i == 1))

-- window `y` is what window `x` becomes after one generation, if nothing is alive around `x`
abbrev pub IsNextWindow : Numbers → ℕ → List (List ℕ) → List (List ℕ) → Type 0
IsNextWindow rule n x y = (r : ℕ) → r < 4 * n → IsNextRow rule (row_above n x r) (row_at n x r) (row_below n x r) (row_at n y r)

-- Vector k of a window was advanced by one generation, using the sums of its own rows (`here`), of the rows above them
-- (`up`) and of the rows below them (`below`). The rows below are those of vector k + 1.
pub record IsVectorMade (rule : Numbers) (k : ℕ) (up : Sum) (here below : RowSums) (old new : List (List ℕ)) : Type 0 where
  pub next : List ℕ
  pub is : new ≡ set old k next
  pub answers : AnswersRows rule up here.all below.all (slice_index_or old k []) next
  pub sums : (j i : ℕ) → j < 4 → i < 64 → sum_of below.all j i ≡ row_sum (lane_at old (k + 1) j) i
  pub beside : AreBeside below (slice_index_or old (k + 1) [])

-- the window, whose first cell is (left, top), shows the list in all cells at least `depth` inside its border
abbrev pub IsShownInside : ℕ → ℤ → ℤ → ℕ → List (List ℕ) → List Cell → Type 0
IsShownInside n left top depth x cells = (r i : ℕ) → depth ≤ r → r + depth < 4 * n → depth ≤ i → i + depth < 64
    → has cells (cell_at (left +ℤ pos i) (top +ℤ pos r)) ≡ (bit_at (row_at n x r) i == 1)

-- if the first window shows a pattern at least `depth` inside its border, the second shows the pattern `count`
-- generations later, at least `depth + count` inside
abbrev pub IsLaterWindow : Numbers → ℕ → List (List ℕ) → List (List ℕ) → ℕ → Type 0
IsLaterWindow rule n x y count = (cells : List Cell) (left top : ℤ) (depth : ℕ) → InOrder cells → IsShownInside n left top depth x cells
    → IsShownInside n left top (depth + count) y (after rule cells count)
