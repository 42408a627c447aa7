use Rattle.std.proofs.Common.{ℕ, ◌+◌, ◌≤◌, subst, sym}
use Rattle.plane_core.proofs.lemmas.plane.CoordinateLemmas.{row_apart}
use Rattle.plane_core.proofs.engine.window_io.row_of.Goals as goal

pub overflow_sub-result : goal.overflow_sub-result
overflow_sub-result c = (row_apart c.args.at c.args.window c.requires.frame c.requires.on_board).fits

pub overflow_cast-result : goal.overflow_cast-result
overflow_cast-result c = (row_apart c.args.at c.args.window c.requires.frame c.requires.on_board).counts

pub returns-clause-is : goal.returns-clause-is
returns-clause-is c = (row_apart c.args.at c.args.window c.requires.frame c.requires.on_board).is

pub returns-clause-rows : goal.returns-clause-rows
returns-clause-rows c =
    subst (λ (y : ℕ). y + c.args.window.rows ≤ c.args.at.rows) (sym (row_apart c.args.at c.args.window c.requires.frame c.requires.on_board).count)
    c.requires.on_board.rows
