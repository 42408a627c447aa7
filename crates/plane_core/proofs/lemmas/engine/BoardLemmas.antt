-- An empty board, and the pattern on a board.
use Rattle.std.proofs.Common.{All, ◌≡◌, ◌==◌, ◌+◌, ◌*◌, ℕ, Bool, List, [], arith, ap, ◌∙◌, sym, slice_index}
use Rattle.std.specs.Int.{bit_at}
use Rattle.std.proofs.lemmas.Bool.{false≢true}
use Rattle.plane_core.specs.declared.plane.bounds.Bounds.{Bounds}
use Rattle.plane_core.specs.declared.plane.cell.Cell.{Cell}
use Rattle.plane_core.specs.declared.engine.frame.Frame.{Frame}
use Rattle.plane_core.specs.engine.Boards.{IsBoard}
use Rattle.plane_core.specs.plane.Bounds.{AreSidesWithin}
use Rattle.plane_core.specs.engine.ActiveBoxes.{HoldAll, box_bound}
use Rattle.plane_core.specs.plane.Cells.{IsPattern, has, on_plane, plane_bound}
use Rattle.plane_core.specs.engine.Frames.{FillsFrame, IsFrame, Shows, bounds_of, board_cell}
use Rattle.plane_core.specs.engine.OnBoard.{cells_on}
use Rattle.plane_core.specs.plane.Rules.{Numbers}
use Rattle.plane_core.proofs.lemmas.plane.BoxRoundLemmas.{lies_in}
use Rattle.plane_core.proofs.lemmas.engine.OnBoardLemmas.{cells_in_order, cells_lie_on, shows_cells}
use Rattle.plane_core.proofs.lemmas.engine.QuietLemmas.{quiet-start}

-- a board without a live cell may have any boxes whose sides are within `box_bound`
pub blank_board : (at : Frame) (rule : Numbers) (words : List ℕ) (boxes : List Bounds) (holds_all : Bool) → IsFrame at
    → FillsFrame at words → All (AreSidesWithin box_bound) boxes → cells_on at words ≡ [] → IsBoard at rule words boxes holds_all
blank_board at rule words boxes holds_all frame long sides empty = record {
  frame = frame;
  long = long;
  sides = sides;
  quiet = quiet-start rule (cells_on at words) boxes all;
  all = λ e. all;
}
  where
    all : HoldAll boxes (cells_on at words)
    all c e = absurd (false≢true (sym (ap (λ (S : List Cell). has S c) empty) ∙ e))

-- an empty board still shows the empty pattern when its frame is moved
pub moved_empty : (at new : Frame) (words : List ℕ) → new.word_columns ≡ at.word_columns → new.rows ≡ at.rows → cells_on at words ≡ [] → Shows new words []
moved_empty at new words word_columns rows empty s r i hs hr hi =
    sym (ap (λ (S : List Cell). has S (board_cell at s r i)) empty)
    ∙ shows_cells at words s r i (omega (arith, hs, word_columns)) (omega (arith, hr, rows)) hi
    ∙ ap (λ (n : ℕ). bit_at (slice_index words (s * n + r)) i == 1) (sym rows)

-- what a board on the plane shows is a pattern
pub board_pattern : (at : Frame) (words : List ℕ) → AreSidesWithin plane_bound (bounds_of at) → IsPattern (cells_on at words)
unfolding on_plane
board_pattern at words sides = record {
  in_order = cells_in_order at words;
  on_plane = lies_in (cells_on at words) (bounds_of at) plane_bound (cells_lie_on at words) sides;
}
