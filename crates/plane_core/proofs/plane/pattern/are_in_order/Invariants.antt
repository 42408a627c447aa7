use Rattle.std.proofs.Common.{◌≡◌, ◌+◌, ◌<◌, ◌≤◌, ℕ, IsTrue}
use Rattle.std.specs.declared.cmp.Ordering.TheVariants.{Less}
use Rattle.plane_core.specs.plane.Cells.{cell_cmp}
use Rattle.plane_core.specs.clusters.UnionFind.{cell_of}
use Rattle.plane_core.proofs.plane.pattern.are_in_order.Given as goal

abbrev pub invariant-loop-place : goal.invariant-loop-place
invariant-loop-place l = (1 ≤ l.place) × (IsTrue l.ordered → (k : ℕ) → k + 1 < l.place → cell_cmp (cell_of l.cells k) (cell_of l.cells (k + 1)) ≡ Less)
