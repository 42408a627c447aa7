use Rattle.handover.proofs.BeltLemmas.{pushes}
use Rattle.handover.proofs.belt.Belt.try_present.Goals as goal

pub try_push_as-requires-clause-rule : goal.try_push_as-requires-clause-rule
try_push_as-requires-clause-rule g c =
    pushes c.self.inside.queue.cap c.pass.inside.pass.id c.pass.inside.pass.me.0.client c.pass.inside.number c.args.note c.pass.invariant.0
