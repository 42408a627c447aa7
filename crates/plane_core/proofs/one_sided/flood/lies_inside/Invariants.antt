use Rattle.std.proofs.Common.{◌≡◌, ◌<◌, ℕ}
use Rattle.std.specs.Int.{bit_at}
use Rattle.plane_core.specs.one_sided.Floods.{IsWellInside}
use Rattle.plane_core.specs.windows.Rows.{bit_in}
use Rattle.plane_core.proofs.one_sided.flood.lies_inside.Given as goal

abbrev pub invariant-loop-r : goal.invariant-loop-r
invariant-loop-r l = (i : ℕ) → bit_at l.all i ≡ 0 → (r : ℕ) → r < l.r → bit_in l.flood r i ≡ 1 → IsWellInside r i
