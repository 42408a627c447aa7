use Rattle.std.proofs.Common.{◌≡◌}
use Rattle.crew_tests.proofs.tickets.draw_all.Given as goal

abbrev pub invariant-loop : goal.invariant-loop
invariant-loop l = l.pass.series ≡ l.fn.tickets
