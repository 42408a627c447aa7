-- How the cells of a board are read into a list.
use Rattle.std.specs.Prelude.{◌≡◌, ◌+◌, ◌*◌, ◌<◌, ◌≤◌, ℕ, ◌+ℤ◌, pos, List, slice_index, true}
use Rattle.std.specs.Int.{bit_at}
use Rattle.plane_core.specs.declared.engine.frame.Frame.{Frame}
use Rattle.plane_core.specs.declared.plane.cell.Cell.{Cell}
use Rattle.plane_core.specs.plane.Cells.{cell_at, has}
use Rattle.plane_core.specs.engine.Frames.{Shows, board_cell, word_of}

-- each cell of `cells` is also in `others`
abbrev pub AreAmong : List Cell → List Cell → Type 0
AreAmong others cells = (c : Cell) → has cells c ≡ true → has others c ≡ true

-- the first n bits of a word have been read: their live cells, and only live cells of the word, have been added to the
-- list
pub record HasRead (word : ℕ) (first : Cell) (old : List Cell) (n : ℕ) (new : List Cell) : Type 0 where
  pub grows : AreAmong new old
  pub sound : (others : List Cell) → ((i : ℕ) → i < 64 → bit_at word i ≡ 1 → has others (cell_at (first.x +ℤ pos i) first.y) ≡ true)
      → AreAmong others old → AreAmong others new
  pub complete : (i : ℕ) → i < n → bit_at word i ≡ 1 → has new (cell_at (first.x +ℤ pos i) first.y) ≡ true

-- the first n rows of the board have been read: the list has their live cells, and only live cells of the board
pub record HasReadRows (at : Frame) (words : List ℕ) (n : ℕ) (new : List Cell) : Type 0 where
  pub sound : (others : List Cell) → Shows at words others → AreAmong others new
  pub complete : (s r i : ℕ) → s < at.word_columns → r < n → i < 64 → bit_at (slice_index words (word_of at s r)) i ≡ 1 → has new (board_cell at s r i) ≡ true

-- no cell of a band of eight rows is alive in word column s
abbrev pub IsWordColumnEmpty : Frame → List ℕ → ℕ → ℕ → Type 0
IsWordColumnEmpty at words band s = (k b : ℕ) → k < 8 → b < 64 → bit_at (slice_index words (word_of at s (8 * band + k))) b ≡ 0

-- no cell of a band is alive in the word columns from `from` to before `to`
abbrev pub IsBandEmpty : Frame → List ℕ → ℕ → ℕ → ℕ → Type 0
IsBandEmpty at words band from to = (s : ℕ) → from ≤ s → s < to → IsWordColumnEmpty at words band s
