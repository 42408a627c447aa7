-- Definitions that only proofs use: what holds between two steps of a call, or in one iteration of a loop.
use Rattle.plane_core.specs.plane.Bounds.{AreSidesWithin}
use Rattle.plane_core.specs.engine.ActiveBoxes.{HoldAll, IsQuiet, box_bound}
use Rattle.plane_core.specs.plane.Cells.{InOrder, cell_at, distance, has, king_distance, plane_bound}
use Rattle.plane_core.specs.clusters.Clusters.{IsCluster, Linked}
use Rattle.plane_core.specs.engine.Directions.{IsReached}
use Rattle.plane_core.specs.clusters.UnionFind.{IsForest, cell_of}
use Rattle.plane_core.specs.engine.Frames.{FillsFrame, IsFrame, Shows, board_cell, word_of}
use Rattle.plane_core.specs.plane.Generations.{after, lives_by}
use Rattle.plane_core.specs.windows.LaneSums.{bit_of, sum_of, total_of}
use Rattle.plane_core.specs.engine.Listing.{AreAmong}
use Rattle.plane_core.specs.windows.LonePatterns.{FillsRows, IsFirstRow}
use Rattle.plane_core.specs.engine.OnBoard.{cells_on}
use Rattle.plane_core.specs.engine.WindowIo.{bit_on}
use Rattle.plane_core.specs.engine.LeapWindows.{IsCovered, IsInnerCell}
use Rattle.plane_core.specs.plane.Rules.{Numbers}
use Rattle.plane_core.specs.engine.RowSpans.{AreSpans, IsInSpan, LieInSpans}
use Rattle.plane_core.specs.windows.Windows.{IsShownInside, row_at}
use Rattle.plane_core.specs.windows.Words.{one_if}
use Rattle.plane_core.specs.declared.plane.bounds.Bounds.{Bounds}
use Rattle.plane_core.specs.declared.plane.cell.Cell.{Cell}
use Rattle.plane_core.specs.declared.engine.frame.Frame.{Frame}
use Rattle.plane_core.specs.declared.windows.lane_sums.Sum.{Sum}
use Rattle.plane_core.specs.declared.windows.lane_sums.Total.{Total}
use Rattle.plane_core.specs.declared.engine.leap_window.LeapWindow.{LeapWindow}
use Rattle.plane_core.specs.declared.engine.lone_window.WindowOrigin.{WindowOrigin}
use Rattle.plane_core.specs.declared.engine.row_spans.RowSpan.{RowSpan}
use Rattle.std.specs.Int.{bit_at}
use Rattle.std.specs.Prelude.{All, Bool, List, Option, Some, false, pos, slice_index, true, ℕ, ℤ, ◌%◌, ◌*◌, ◌+ℤ◌, ◌+◌, ◌-ℤ◌, ◌-◌, ◌<◌, ◌==◌, ◌≡◌, ◌≤ℤ◌, ◌≤◌, ◌⊎◌}

-- The boxes are right for a leap of n generations. If n is even, each cell that isn't within 2 of a box is the same two
-- generations later. If n is odd, each live cell is in a box.
pub record AreRightFor (rule : Numbers) (cells : List Cell) (boxes : List Bounds) (n : ℕ) : Type 0 where
  pub even : n % 2 ≡ 0 → IsQuiet rule cells boxes
  pub odd : n % 2 ≡ 1 → HoldAll boxes cells

-- a board that is ready for a leap of n generations
pub record IsReady (rule : Numbers) (at : Frame) (n : ℕ) (words : List ℕ) (boxes : List Bounds) (spans : List RowSpan) : Type 0 where
  pub frame : IsFrame at
  pub long : FillsFrame at words
  pub sides : All (AreSidesWithin box_bound) boxes
  pub right : AreRightFor rule (cells_on at words) boxes n
  pub spanned : AreSpans at (cells_on at words) spans

-- a board that was advanced by n generations, with its boxes and spans
pub record HasGoneOn (rule : Numbers) (at : Frame) (n : ℕ) (old new : List ℕ) (boxes : List Bounds) (spans : List RowSpan) : Type 0 where
  pub cells : cells_on at new ≡ after rule (cells_on at old) n
  pub sides : All (AreSidesWithin box_bound) boxes
  pub right : AreRightFor rule (cells_on at new) boxes n
  pub live : LieInSpans at spans (cells_on at new)

-- each cell outside the inner parts of all windows is unchanged after n generations
abbrev pub IsStillOutside : Numbers → List LeapWindow → List Cell → ℕ → Type 0
IsStillOutside rule places cells n = (c : Cell) → ¬ IsCovered places c → has (after rule cells n) c ≡ has cells c

-- the inner part of a window begins in this column and this row
pub record BeginsAt (p : LeapWindow) (column row : ℤ) : Type 0 where
  pub left : p.left ≡ column -ℤ pos 4
  pub top : p.top ≡ row -ℤ pos 4

-- `greater` is the greater of `depth` and the depth that was found, or `depth` if none was found
pub record IsGreater (found : Option ℤ) (depth greater : ℤ) : Type 0 where
  pub kept : (z : ℤ) → IsReached found z → z ≤ℤ greater
  pub least : depth ≤ℤ greater
  pub either : greater ≡ depth ⊎ found ≡ Some greater

-- `new` is a forest if `old` is one and the cells at places j and k are linked
abbrev pub JoinsLinked : List ℕ → List ℕ → ℕ → ℕ → Type 0
JoinsLinked old new j k = (cells : List Cell) → IsForest cells old → Linked cells (cell_of cells j) (cell_of cells k) → IsForest cells new

-- the box isn't larger than the board, and is so far inside the plane that a board around the box is on the plane
pub record HasRoom (at : Frame) (b : Bounds) : Type 0 where
  pub across : distance b.left b.right + 1 ≤ 64 * at.word_columns
  pub down : distance b.top b.bottom + 1 ≤ at.rows
  pub plane : 64 * at.word_columns + at.rows ≤ plane_bound
  pub sides : AreSidesWithin (plane_bound - (64 * at.word_columns + at.rows)) b

-- the cell is `across` columns and `down` rows from the first cell of the window
pub record IsSpot (p : WindowOrigin) (c : Cell) (across down : ℕ) : Type 0 where
  pub across_is : c.x ≡ p.left +ℤ pos across
  pub down_is : c.y ≡ p.top +ℤ pos down

-- the 64 rows show which cells of the window are in the list
abbrev pub ShowsRows : WindowOrigin → List ℕ → List Cell → Type 0
ShowsRows p rows cells =
    (r i : ℕ) → r < 64 → i < 64 → has cells (cell_at (p.left +ℤ pos i) (p.top +ℤ pos r)) ≡ (bit_at (slice_index rows r) i == 1)

-- each bit of `next` is the rule's answer for the total of its cell, if this total is at most nine
abbrev pub AnswersTotal : Numbers → Total → List ℕ → List ℕ → Type 0
AnswersTotal rule total now next =
    (j i : ℕ) → j < 4 → i < 64 → total_of total j i ≤ 9 → bit_of next j i ≡ one_if (lives_by rule (total_of total j i) (bit_of now j i == 1))

-- each bit of `next` is the rule's answer for the sums of three rows; the sum of the middle row, `beside`, leaves out
-- the cell itself
abbrev pub AnswersNeighbours : Numbers → Sum → Sum → Sum → List ℕ → List ℕ → Type 0
AnswersNeighbours rule up beside down now next =
    (j i : ℕ) → j < 4 → i < 64
    → bit_of next j i ≡ one_if (lives_by rule (sum_of up j i + (sum_of beside j i + bit_of now j i) + sum_of down j i) (bit_of now j i == 1))

-- if each cell outside the inner parts of all windows is unchanged after `count` generations, the new board shows the
-- pattern of that generation
abbrev pub HasLeapt : Frame → Numbers → ℕ → List LeapWindow → List ℕ → List ℕ → Type 0
HasLeapt at rule count places old new = (cells : List Cell) → InOrder cells → Shows at old cells
    → ((c : Cell) → ¬ IsCovered places c → has (after rule cells count) c ≡ has cells c) → Shows at new (after rule cells count)

-- the bits of a word from `from` to before `to` are 0
abbrev pub AreDead : ℕ → ℕ → ℕ → Type 0
AreDead word from to = (b : ℕ) → from ≤ b → b < to → bit_at word b ≡ 0

-- the first bit from `from` on that is 1
pub record IsNextAlive (word from place : ℕ) : Type 0 where
  pub low : from ≤ place
  pub high : place < 64
  pub one : bit_at word place ≡ 1
  pub none : AreDead word from place

-- in row r, the words of the first n word columns have been read: their live cells, and only live cells of the board,
-- have been added to the list
pub record HasReadRow (at : Frame) (words : List ℕ) (r : ℕ) (old : List Cell) (n : ℕ) (new : List Cell) : Type 0 where
  pub grows : AreAmong new old
  pub sound : (others : List Cell) → Shows at words others → AreAmong others old → AreAmong others new
  pub complete : (s i : ℕ) → s < n → i < 64 → bit_at (slice_index words (word_of at s r)) i ≡ 1 → has new (board_cell at s r i) ≡ true

-- no cell of a row is alive in the word columns from `from` to before `to`
abbrev pub IsRowEmpty : Frame → List ℕ → ℕ → ℕ → ℕ → Type 0
IsRowEmpty at words r from to = (s b : ℕ) → from ≤ s → s < to → b < 64 → bit_at (slice_index words (word_of at s r)) b ≡ 0

-- the first row and the first column of a window that have a live cell
pub record IsCorner (n : ℕ) (x : List (List ℕ)) (columns row column : ℕ) : Type 0 where
  pub row_is : IsFirstRow n x row
  pub low : column < 64
  pub some : bit_at columns column ≡ 1
  pub none : (i : ℕ) → i < column → bit_at columns i ≡ 0

-- each cell that passes the test is further than `far` from each cell that doesn't
abbrev pub AreApart : ℕ → (Cell → Bool) → List Cell → Type 0
AreApart far test cells = (c d : Cell) → has cells c ≡ true → has cells d ≡ true → test c ≡ true → test d ≡ false → far < king_distance c d

-- the window of n vectors has the board's bits from column x and row y on
abbrev pub IsReadAt : Frame → List ℕ → ℕ → ℕ → ℕ → List (List ℕ) → Type 0
IsReadAt at words x y n window =
    (r i : ℕ) → r < 4 * n → i < 64 → bit_at (row_at n window r) i ≡ bit_on at words (x + i) (y + r)

-- `cluster` is a cluster of the pattern, and the rows of the flood show exactly the cells of this cluster
pub record IsAlone (left top : ℤ) (flood : List ℕ) (cells cluster : List Cell) : Type 0 where
  pub is : IsCluster cells cluster
  pub held : FillsRows left top flood cluster

-- if the window shows a pattern in all cells at least `depth` inside its border, the flood shows one of the pattern's
-- clusters
abbrev pub FloodsCluster : List (List ℕ) → List ℕ → ℕ → Type 0
FloodsCluster window flood depth =
    (cells : List Cell) (left top : ℤ) → InOrder cells → IsShownInside 16 left top depth window cells
    → (cluster : List Cell) × IsAlone left top flood cells cluster

-- each cell of the board in the inner part of a window is in the span of its word column
abbrev pub HoldInner : Frame → List RowSpan → LeapWindow → Type 0
HoldInner at spans p = (s r i : ℕ) → s < at.word_columns → r < at.rows → i < 64 → IsInnerCell p (board_cell at s r i) → IsInSpan spans s r
