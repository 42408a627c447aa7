use Rattle.handover.proofs.BeltLemmas.{forks_as}
use Rattle.crossbeam_queue.specs.Passes.{view}
use Rattle.handover.proofs.belt.make_sender.Goals as goal

pub another-sender-requires-clause-rule : goal.another-sender-requires-clause-rule
another-sender-requires-clause-rule g c = forks_as c.args.pass.now.id (view c.args.pass.now) c.args.made c.requires.made
