use Rattle.handover.proofs.BeltLemmas.{pops}
use Rattle.handover.proofs.belt.Belt.try_receive.Goals as goal

pub try_pop_as-requires-clause-rule : goal.try_pop_as-requires-clause-rule
try_pop_as-requires-clause-rule g c = pops c.pass.inside.pass.id c.pass.inside.pass.me.0.client c.pass.invariant.0
