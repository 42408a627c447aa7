use Rattle.std.proofs.Common.{List}
use Rattle.std.specs.List.{All}
use Rattle.plane_core.specs.declared.plane.cell.Cell.{Cell}
use Rattle.plane_core.specs.plane.Cells.{InOrder}
use Rattle.plane_core.specs.clusters.Clusters.{IsCluster}
use Rattle.plane_core.specs.windows.Rows.{ShowsInRows}
use Rattle.plane_core.proofs.one_sided.spaceship_candidates.add_grown.Given as goal

abbrev pub invariant-loop : goal.invariant-loop
invariant-loop l = (cells : List Cell) → InOrder cells → ShowsInRows l.at.left l.at.top l.rows cells
    → All (IsCluster cells) l.initial.clusters.items → All (IsCluster cells) l.clusters.items
