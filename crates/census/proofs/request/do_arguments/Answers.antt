use Rattle.std.proofs.Common.{inl, refl}
use Rattle.census.proofs.ProgramLemmas.{request_leaves, unasked_does, unasked_leaves}
use Rattle.census.proofs.request.do_arguments.Goals as goal

pub returns-in-Ok-clause-command : goal.returns-in-Ok-clause-command
returns-in-Ok-clause-command g c _ = inl (rw c.in-Ok.ensures.asked c.do_request.ensures.ends)

pub returns-in-Ok-clause-leaves : goal.returns-in-Ok-clause-leaves
returns-in-Ok-clause-leaves g c =
    request_leaves _ _ _ _ _ _ _ _ c.in-Ok.ensures.asked c.do_request.ensures.ends c.do_request.ensures.spares

pub returns-in-Err-clause-command : goal.returns-in-Err-clause-command
returns-in-Err-clause-command g c = unasked_does _ _ _ _ _ _ c.in-Err.ensures.version c.end_unasked.ensures

pub returns-in-Err-clause-leaves : goal.returns-in-Err-clause-leaves
returns-in-Err-clause-leaves g c = unasked_leaves _ _ _ _ _ c.in-Err.ensures.usage c.end_unasked.ensures refl refl
