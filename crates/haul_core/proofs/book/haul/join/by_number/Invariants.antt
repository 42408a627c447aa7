use Rattle.std.proofs.Common.{◌≡◌, map, take, ℕ}
use Rattle.haul_core.proofs.book.haul.join.by_number.Given as goal

abbrev pub invariant-loop-entry : goal.invariant-loop-entry
invariant-loop-entry l = l.worker_of.entries ≡ map (λ (t : ℕ × ℕ). (t.1, t.0)) (take l.entry-index l.taken)
