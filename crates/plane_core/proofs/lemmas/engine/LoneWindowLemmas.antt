-- A pattern that is alone in a window, as the pattern of a board of one word column.
use Rattle.std.proofs.Common.{◌≡◌, ◌∙◌, ◌==◌, ◌+◌, ◌*◌, ◌<◌, ℕ, pos, ◌+ℤ◌, List, arith, ap, sym, slice_index}
use Rattle.std.specs.Int.{bit_at}
use Rattle.std.proofs.lemmas.Int.{ints}
use Rattle.plane_core.specs.declared.plane.cell.Cell.{Cell}
use Rattle.plane_core.specs.declared.engine.frame.Frame.{Frame}
use Rattle.plane_core.specs.declared.engine.lone_window.WindowOrigin.{WindowOrigin}
use Rattle.plane_core.specs.plane.Cells.{cell_at, has}
use Rattle.plane_core.specs.engine.Frames.{LieOn, Shows, word_of}
use Rattle.plane_core.specs.windows.LonePatterns.{Holds}
use Rattle.plane_core.specs.engine.OnBoard.{cells_on}
use Rattle.plane_core.specs.windows.Windows.{row_at}
use Rattle.plane_core.proofs.lemmas.engine.OnBoardLemmas.{only_cells}

-- the rows of a window that holds a pattern are the words of a board that shows exactly this pattern
pub held_pattern : (at : Frame) (p : WindowOrigin) (window : List (List ℕ)) (rows : List ℕ) (S : List Cell) → at.left ≡ p.left → at.top ≡ p.top
    → at.word_columns ≡ 1 → at.rows ≡ 64 → Holds 16 p.left p.top window S → ((r : ℕ) → r < 64 → slice_index rows r ≡ row_at 16 window r)
    → cells_on at rows ≡ S
held_pattern at p window rows S left top word_columns high h same = only_cells at rows S h.in_order on shown
  where
    on : LieOn at S
    on c e =
        let w = h.inside c e in
        record {
          left = let k = w.west in omega (arith, ints, left);
          top = let k = w.north in omega (arith, ints, top);
          right = let k = w.east in omega (arith, ints, left, word_columns);
          bottom = let k = w.south in omega (arith, ints, top, high);
        }

    shown : Shows at rows S
    shown s r i hs hr hi =
        let word_column : s ≡ 0 = omega (arith, hs, word_columns) in
        let low : r < 64 = omega (arith, hr, high) in
        let word : word_of at s r ≡ r = ap (λ (t : ℕ). t * at.rows + r) word_column ∙ omega arith in
        let across : at.left +ℤ pos (64 * s + i) ≡ p.left +ℤ pos i = omega (arith, ints, left, word_column) in
        let down : at.top +ℤ pos r ≡ p.top +ℤ pos r = omega (arith, ints, top) in
        (λ j. has S (cell_at (across j) (down j)))
        ∙ h.shown r i (omega arith) (omega (arith, low)) (omega arith) (omega (arith, hi))
        ∙ ap (λ (w : ℕ). bit_at w i == 1) (sym (ap (slice_index rows) word ∙ same r low))
