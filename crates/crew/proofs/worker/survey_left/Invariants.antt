use Rattle.std.proofs.Common.{◌≡◌}
use Rattle.crew.specs.Workers.{AreNotDone, HasReported}
use Rattle.crew.proofs.worker.survey_left.Given as goal

abbrev pub invariant-loop : goal.invariant-loop
invariant-loop g l =
    (l.pass.series ≡ l.fn.shared.tickets)
    × (l.sender.number ≡ l.fn.sender.number)
    × HasReported (g.G.Gate.lets l.fn.gate) l.fn.shared l.pass.numbers l.sender
    × AreNotDone l.sender.notes
