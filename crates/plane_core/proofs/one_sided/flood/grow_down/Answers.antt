use Rattle.plane_core.proofs.lemmas.one_sided.FloodLemmas.{grown_more, grown_none}
use Rattle.plane_core.proofs.one_sided.flood.grow_down.Goals as goal

pub loop-r-init : goal.loop-r-init
loop-r-init c = grown_none c.args.rows.now c.args.flood.now

pub loop-r-preserved : goal.loop-r-preserved
loop-r-preserved c = grown_more c.args.rows.now c.args.flood.now c.loop-r.flood c.grow_row.new.flood c.loop-r.invariant c.grow_row.ensures
