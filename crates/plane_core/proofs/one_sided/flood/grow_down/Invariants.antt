use Rattle.plane_core.specs.one_sided.Floods.{HasGrown}
use Rattle.plane_core.proofs.one_sided.flood.grow_down.Given as goal

abbrev pub invariant-loop-r : goal.invariant-loop-r
invariant-loop-r l = HasGrown l.rows l.fn.flood l.flood
