use Rattle.handover.proofs.BeltLemmas.{merges}
use Rattle.crossbeam_queue.specs.Passes.{view}
use Rattle.handover.proofs.belt.absorb_one.Goals as goal

pub absorb-requires-clause-rule : goal.absorb-requires-clause-rule
absorb-requires-clause-rule g c = merges c.args.pass.now.id (view c.args.pass.now) c.sender.inside.pass.id (view c.sender.inside.pass)
