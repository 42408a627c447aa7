use Rattle.std.proofs.Common.{◌≡◌, ◌<◌, ℕ, slice_index}
use Rattle.std.specs.Int.{bit_at}
use Rattle.plane_core.proofs.engine.board.next_pattern.is_empty.Given as goal

abbrev pub invariant-loop-r : goal.invariant-loop-r
invariant-loop-r l = (i : ℕ) → bit_at l.all i ≡ 0 → (r : ℕ) → r < l.r → bit_at (slice_index l.rows r) i ≡ 0
