use Rattle.std.proofs.Common.{◌*◌}
use Rattle.plane_core.proofs.lemmas.engine.FrameFits.{columns_low, offset_fits, offset_is}
use Rattle.plane_core.proofs.engine.frame.Frame.across.Goals as goal

pub overflow_sub-result : goal.overflow_sub-result
overflow_sub-result c =
    offset_fits c.args.cell.x c.args.self.left (64 * c.args.self.word_columns) c.requires.frame.left (columns_low c.args.self c.requires.frame) c.requires.within.left
    c.requires.within.right

pub returns : goal.returns
returns c =
    offset_is c.args.cell.x c.args.self.left (64 * c.args.self.word_columns) c.requires.frame.left (columns_low c.args.self c.requires.frame) c.requires.within.left
    c.requires.within.right
