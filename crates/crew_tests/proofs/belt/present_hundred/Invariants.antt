use Rattle.std.proofs.Common.{◌≡◌}
use Rattle.crew_tests.proofs.belt.present_hundred.Given as goal

abbrev pub invariant-loop-number : goal.invariant-loop-number
invariant-loop-number g l = l.pass.belt ≡ l.fn.pass.belt
