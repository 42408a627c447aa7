use Rattle.plane_core.proofs.lemmas.engine.FrameFits.{offset_fits, offset_is}
use Rattle.plane_core.proofs.engine.frame.Frame.down.Goals as goal

pub overflow_sub-result : goal.overflow_sub-result
overflow_sub-result c =
    offset_fits c.args.cell.y c.args.self.top c.args.self.rows c.requires.frame.top c.requires.frame.rows c.requires.within.top
    c.requires.within.bottom

pub returns : goal.returns
returns c =
    offset_is c.args.cell.y c.args.self.top c.args.self.rows c.requires.frame.top c.requires.frame.rows c.requires.within.top
    c.requires.within.bottom
