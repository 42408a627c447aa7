use Rattle.std.proofs.Common.{ℕ, ◌+◌, ◌/◌, ◌<◌, ◌≤◌, List, arith, refl, subst, sym}
use Rattle.plane_core.specs.engine.Boards.{Running}
use Rattle.plane_core.specs.engine.Frames.{IsFrame, Shows}
use Rattle.plane_core.specs.declared.engine.frame.Frame.{Frame}
use Rattle.plane_core.proofs.lemmas.plane.CoordinateLemmas.{IsMoved, moved_by, view_is_frame, view_on_plane}
use Rattle.plane_core.proofs.lemmas.engine.FrameFits.{fits_next_word_column, fits_window_end}
use Rattle.plane_core.proofs.lemmas.engine.LeapLemmas.{rows_shown}
use Rattle.plane_core.specs.plane.Cells.{InOrder}
use Rattle.plane_core.proofs.lemmas.engine.OnBoardLemmas.{cells_in_order, shows_cells}
use Rattle.plane_core.proofs.engine.board.Board.view.Goals as goal

whole : 64 ≤ 64
whole = omega arith

right : (at : Frame) (x : ℕ) → IsFrame at → x / 64 + 1 < at.word_columns → IsMoved at.left x
right at x frame word_column =
    let few = frame.word_columns in
    moved_by at.left x (omega (arith, frame.left)) (omega (arith, word_column, few))

down : (at : Frame) (y : ℕ) → IsFrame at → y + 64 ≤ at.rows → IsMoved at.top y
down at y frame row =
    let few = frame.rows in
    moved_by at.top y (omega (arith, frame.top)) (omega (arith, row, few))

pub overflow_add-x : goal.overflow_add-x
overflow_add-x c = fits_next_word_column c.in-Some.x c.in-Some.ensures

pub overflow_add-y : goal.overflow_add-y
overflow_add-y c = fits_window_end c.in-Some-first_of.y 64 c.in-Some-first_of.ensures whole

pub overflow_cast-result : goal.overflow_cast-result
overflow_cast-result c = (right c.self.inside.at c.in-Some.x c.self.invariant.board.frame c.if-x-at.false).step

pub overflow_add-result : goal.overflow_add-result
overflow_add-result c = (right c.self.inside.at c.in-Some.x c.self.invariant.board.frame c.if-x-at.false).fits

pub overflow_cast-result-2 : goal.overflow_cast-result-2
overflow_cast-result-2 c = (down c.self.inside.at c.in-Some-first_of.y c.self.invariant.board.frame c.if-y-at.false).step

pub overflow_add-result-2 : goal.overflow_add-result-2
overflow_add-result-2 c = (down c.self.inside.at c.in-Some-first_of.y c.self.invariant.board.frame c.if-y-at.false).fits

pub returns-clause-frame : goal.returns-clause-frame
returns-clause-frame c =
    let at = c.self.inside.at in
    let plane = c.self.invariant.plane in
    record {
      frame = view_is_frame at c.in-Some.x c.in-Some-first_of.y _ plane c.if-x-at.false c.if-y-at.false record {
        left = (right c.self.inside.at c.in-Some.x c.self.invariant.board.frame c.if-x-at.false).is;
        top = (down c.self.inside.at c.in-Some-first_of.y c.self.invariant.board.frame c.if-y-at.false).is;
        word_columns = refl;
        rows = refl;
      };
      plane = view_on_plane at c.in-Some.x c.in-Some-first_of.y _ plane c.if-x-at.false c.if-y-at.false record {
        left = (right c.self.inside.at c.in-Some.x c.self.invariant.board.frame c.if-x-at.false).is;
        top = (down c.self.inside.at c.in-Some-first_of.y c.self.invariant.board.frame c.if-y-at.false).is;
        word_columns = refl;
        rows = refl;
      };
      word_columns = refl;
      rows = refl;
    }

pub returns-clause-shown : goal.returns-clause-shown
returns-clause-shown c =
    let at = c.self.inside.at in
    let items = c.self.inside.words.items in
    rows_shown at _ _ c.as_slice.result.now c.in-Some.x c.in-Some-first_of.y c.read_rows.result c.args.self.now.cells c.if-x-at.false c.if-y-at.false
    (right c.self.inside.at c.in-Some.x c.self.invariant.board.frame c.if-x-at.false).is (down c.self.inside.at c.in-Some-first_of.y c.self.invariant.board.frame c.if-y-at.false).is
    (subst (λ (words : List ℕ). Shows at words c.args.self.now.cells) (sym c.as_slice.ensures.value)
    (subst (λ (b : Running). Shows at items b.cells) c.self.view_is (shows_cells at items))) c.read_rows.ensures

pub returns-clause-order : goal.returns-clause-order
returns-clause-order c = subst (λ (b : Running). InOrder b.cells) c.self.view_is (cells_in_order _ _)
