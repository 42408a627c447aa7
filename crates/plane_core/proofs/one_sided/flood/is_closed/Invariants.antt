use Rattle.std.proofs.Common.{◌≡◌, ◌<◌, ◌≤◌, ℕ}
use Rattle.std.specs.Int.{bit_at}
use Rattle.plane_core.specs.one_sided.Floods.{IsClosedAt}
use Rattle.plane_core.proofs.one_sided.flood.is_closed.Given as goal

abbrev pub invariant-loop-r : goal.invariant-loop-r
invariant-loop-r l = (j : ℕ) → bit_at l.all j ≡ 0 → j < 64 → (q : ℕ) → q < l.r → 2 ≤ q → IsClosedAt l.rows l.flood q j
