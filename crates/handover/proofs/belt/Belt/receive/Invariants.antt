use Rattle.std.proofs.Common.{◌≡◌}
use Rattle.handover.proofs.belt.Belt.receive.Given as goal

abbrev pub invariant-loop : goal.invariant-loop
invariant-loop g l = l.pass ≡ l.fn.pass
