-- The pattern that a board shows, as a list of its cells.
use Rattle.std.specs.Prelude.{◌==◌, ◌*◌, ◌/◌, ◌%◌, ℕ, zero, suc, Bool, List, [], ◌∷◌, slice_index, if◌then◌else◌}
use Rattle.std.specs.Int.{bit_at}
use Rattle.plane_core.specs.declared.engine.frame.Frame.{Frame}
use Rattle.plane_core.specs.declared.plane.cell.Cell.{Cell}
use Rattle.plane_core.specs.plane.Cells.{set_of}
use Rattle.plane_core.specs.engine.Frames.{board_cell}

-- bit k of the words of a board, counted through the whole list, is 1
abbrev pub is_live_bit : List ℕ → ℕ → Bool
is_live_bit words k = bit_at (slice_index words (k / 64)) (k % 64) == 1

-- the cell of bit k of the words, counted through the whole list
abbrev pub lit_cell : Frame → ℕ → Cell
lit_cell at k = board_cell at (k / 64 / at.rows) (k / 64 % at.rows) (k % 64)

-- the live cells among the cells of the first n bits
abbrev pub lit_before : Frame → List ℕ → ℕ → List Cell
lit_before at words zero = []
lit_before at words (suc k) = if is_live_bit words k then lit_cell at k ∷ lit_before at words k else lit_before at words k

-- all live cells of a board, in order
unfoldable pub cells_on : Frame → List ℕ → List Cell
cells_on at words = set_of (lit_before at words (64 * (at.word_columns * at.rows)))
