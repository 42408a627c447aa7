use Rattle.std.proofs.Common.{ℕ, ◌+◌, ◌/◌, ◌<◌, subst, sym}
use Rattle.plane_core.proofs.lemmas.plane.CoordinateLemmas.{column_apart}
use Rattle.plane_core.proofs.engine.window_io.column_of.Goals as goal

pub overflow_sub-result : goal.overflow_sub-result
overflow_sub-result c = (column_apart c.args.at c.args.window c.requires.frame c.requires.on_board).fits

pub overflow_cast-result : goal.overflow_cast-result
overflow_cast-result c = (column_apart c.args.at c.args.window c.requires.frame c.requires.on_board).counts

pub returns-clause-is : goal.returns-clause-is
returns-clause-is c = (column_apart c.args.at c.args.window c.requires.frame c.requires.on_board).is

pub returns-clause-word_columns : goal.returns-clause-word_columns
returns-clause-word_columns c =
    subst (λ (x : ℕ). x / 64 + 1 < c.args.at.word_columns) (sym (column_apart c.args.at c.args.window c.requires.frame c.requires.on_board).count)
    c.requires.on_board.word_columns
