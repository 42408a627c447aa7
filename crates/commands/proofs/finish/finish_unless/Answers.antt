use Rattle.commands.proofs.finish.finish_unless.Goals as goal

pub returns-in-Ok-clause-none : goal.returns-in-Ok-clause-none
returns-in-Ok-clause-none g c = rw c.in-Ok.is c.finish.ensures.none
