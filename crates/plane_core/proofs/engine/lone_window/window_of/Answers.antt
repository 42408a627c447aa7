use Rattle.plane_core.proofs.lemmas.engine.WindowRoundLemmas.{shown_packed}
use Rattle.plane_core.proofs.engine.lone_window.window_of.Goals as goal

pub returns : goal.returns
returns c = shown_packed c.args.origin c.rows_of.result c.packed.result c.args.cells.now c.rows_of.ensures c.packed.ensures
