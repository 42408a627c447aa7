use Rattle.plane_core.proofs.lemmas.plane.CellLemmas.{same_cells}
use Rattle.plane_core.proofs.lemmas.engine.FrameFits.{corner_small, fits_column, fits_signed_column, fits_signed_row, fits_x, fits_y, x_is, y_is}
use Rattle.plane_core.proofs.engine.frame.Frame.corner.Goals as goal

pub overflow_mul-result : goal.overflow_mul-result
overflow_mul-result c = fits_column c.args.self c.args.word_column c.requires.frame c.requires.word_column

pub overflow_cast-result : goal.overflow_cast-result
overflow_cast-result c = fits_signed_column c.args.self c.args.word_column c.requires.frame c.requires.word_column

pub overflow_add-result : goal.overflow_add-result
overflow_add-result c = fits_x c.args.self c.args.word_column c.requires.frame c.requires.word_column

pub overflow_cast-result-2 : goal.overflow_cast-result-2
overflow_cast-result-2 c = fits_signed_row c.args.self c.args.row c.requires.frame c.requires.row

pub overflow_add-result-2 : goal.overflow_add-result-2
overflow_add-result-2 c = fits_y c.args.self c.args.row c.requires.frame c.requires.row

pub returns-clause-corner : goal.returns-clause-corner
returns-clause-corner c =
    same_cells _ _ _ _ (x_is c.args.self c.args.word_column c.requires.frame c.requires.word_column) (y_is c.args.self c.args.row c.requires.frame c.requires.row)

pub returns-clause-small : goal.returns-clause-small
returns-clause-small c =
    corner_small c.args.self c.args.word_column _ c.requires.frame c.requires.word_column (x_is c.args.self c.args.word_column c.requires.frame c.requires.word_column)
