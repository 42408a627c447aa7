use Rattle.std.proofs.Common.{◌≡◌, ◌==◌, ◌<◌, ◌+ℤ◌, ℕ, pos, take}
use Rattle.std.specs.Int.{bit_at}
use Rattle.plane_core.specs.plane.Cells.{cell_at, has}
use Rattle.plane_core.proofs.engine.board.reach.deepest_in_row.Given as goal

abbrev pub invariant-loop-cell : goal.invariant-loop-cell
invariant-loop-cell l =
    (i : ℕ) → i < 64 → (bit_at l.gone_here i == 1) ≡ has (take l.cell-index l.gone) (cell_at (l.first.x +ℤ pos i) l.first.y)
