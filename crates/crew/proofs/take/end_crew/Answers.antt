use Rattle.handover.specs.Tickets.{drawn_by_all}
use Rattle.crew.proofs.OnceLemmas.{once_if_some_below}
use Rattle.crew.proofs.take.end_crew.Goals as goal

pub returns-clause-once : goal.returns-clause-once
returns-clause-once c = once_if_some_below c.gather.result (drawn_by_all c.args.crew.back.passes.items) c.gather.ensures.once
