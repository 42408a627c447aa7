use Rattle.std.proofs.Common.{◌≡◌}
use Rattle.handover.proofs.belt.Belt.put.Given as goal

abbrev pub invariant-loop : goal.invariant-loop
invariant-loop g l = (l.pass ≡ l.fn.pass) × (l.note ≡ l.fn.note)
