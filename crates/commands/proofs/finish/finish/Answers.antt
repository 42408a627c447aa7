use Rattle.std.proofs.Common.{Err, Ok}
use Rattle.commands.proofs.FinishLemmas.{finishes_accepted, finishes_alike}
use Rattle.commands.proofs.finish.finish.Goals as goal

pub put_haul_text-requires : goal.put_haul_text-requires
put_haul_text-requires g c = c.requires

pub returns-in-Err-clause-finishes : goal.returns-in-Err-clause-finishes
returns-in-Err-clause-finishes g c =
    finishes_alike _ c.close.new.self (Err c.in-Err.complaint) _ c.close.ensures.terms c.close.ensures.taken
    (c.in-Err.ensures.prints c.missing_count-missing.result (rw (c.close.ensures.taken, c.close.ensures.terms) c.missing_count-missing.ensures.count))

pub returns-in-Ok-clause-finishes : goal.returns-in-Ok-clause-finishes
returns-in-Ok-clause-finishes g c =
    finishes_alike _ c.close.new.self (Ok c.missing_count-missing.result) _ c.close.ensures.terms c.close.ensures.taken
    (c.in-Ok.ensures.prints c.missing_count-missing.result (rw (c.close.ensures.taken, c.close.ensures.terms) c.missing_count-missing.ensures.count))

pub returns-in-Err-clause-accepted : goal.returns-in-Err-clause-accepted
returns-in-Err-clause-accepted g c =
    finishes_accepted c.close.new.self (Err c.in-Err.complaint) _
    (c.in-Err.ensures.prints c.missing_count-missing.result (rw (c.close.ensures.taken, c.close.ensures.terms) c.missing_count-missing.ensures.count))
