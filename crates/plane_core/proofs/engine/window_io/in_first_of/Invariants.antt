use Rattle.std.proofs.Common.{◌≡◌, ◌+◌, ◌-◌, ◌<◌, ◌≤◌, ℕ, length, slice_index}
use Rattle.std.specs.Int.{bit_at}
use Rattle.plane_core.proofs.engine.window_io.in_first_of.Given as goal

abbrev pub invariant-loop-j : goal.invariant-loop-j
invariant-loop-j l = record {
  long : length l.values ≡ 4;
  are : (k i : ℕ) → k < l.j → l.shift ≤ i → i < 64 → bit_at (slice_index l.values k) i ≡ bit_at (slice_index l.rows (l.r + k)) (i - l.shift);
}
