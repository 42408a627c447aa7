use Rattle.std.proofs.Common.{is_ok}
use Rattle.crew.specs.Crews.{Collected, HasHeard, collector_with}
use Rattle.crew.proofs.collector.collect.Given as goal

abbrev pub invariant-loop : goal.invariant-loop
invariant-loop g l =
    Collected (collector_with l.fn.started l.fn.pass l.fn.haul) (collector_with l.left l.pass l.haul) (is_ok l.answered)
    × HasHeard l.fn.pass l.pass (λ reports. g.H.ProgressObserver.hears l.fn.observer reports l.observer)
