use Rattle.std.proofs.Common.{◌+◌, arith, rules}
use Rattle.std.proofs.lemmas.Bool.{leb-true}
use Rattle.plane_core.proofs.lemmas.plane.CoordinateLemmas.{more_by, not_below}
use Rattle.plane_core.proofs.lemmas.engine.FrameFits.{fits_next_word_column, fits_window_end}
use Rattle.plane_core.proofs.engine.leap_window.LeapWindow.is_on_board.Goals as goal

pub returns-then-x-at : goal.returns-then-x-at
returns-then-x-at c = λ h. record {
  x = c.abs_diff-x.result;
  y = c.abs_diff-y.result;
  left = more_by c.args.self.left c.args.at.left _ (search rules) (search rules) c.if-self-at.false c.abs_diff-x.ensures;
  top = more_by c.args.self.top c.args.at.top _ (search rules) (search rules) c.if-self-at-2.false c.abs_diff-y.ensures;
  word_columns = c.if-x-at.true;
  rows = leb-true (c.abs_diff-y.result + c.args.self.rows) c.args.at.rows h;
  some = omega (arith, c.if-self-lt8.false);
  few = omega (arith, c.if-self-gt64.false);
}

pub overflow_cast-x : goal.overflow_cast-x
overflow_cast-x c = record { fits = omega (arith, c.abs_diff-x.type_inv) }

pub overflow_cast-y : goal.overflow_cast-y
overflow_cast-y c = record { fits = omega (arith, c.abs_diff-y.type_inv) }

pub overflow_add-x : goal.overflow_add-x
overflow_add-x c = fits_next_word_column c.abs_diff-x.result c.abs_diff-x.type_inv

pub overflow_add-result : goal.overflow_add-result
overflow_add-result c = fits_window_end c.abs_diff-y.result c.args.self.rows c.abs_diff-y.type_inv (omega (arith, c.if-self-gt64.false))

pub returns-else-x-at : goal.returns-else-x-at
returns-else-x-at c = λ e. absurd (not_below _ _ c.if-x-at.false e)
