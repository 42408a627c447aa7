use Rattle.crew.proofs.CrewLemmas.{heard_then}
use Rattle.crew.proofs.take.receive_all.Goals as goal

pub returns-clause-heard : goal.returns-clause-heard
returns-clause-heard g c =
    heard_then g.H.ProgressObserver.hears g.met.H.ProgressObserver.hears_more c.args.observer.now c.started.new.self c.collect-collected.new.observer
    c.started.ensures c.collect-collected.ensures.heard
