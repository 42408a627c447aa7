use Rattle.std.specs.List.{All}
use Rattle.plane_core.specs.clusters.Clusters.{IsCluster}
use Rattle.plane_core.proofs.engine.board.Board.small_clusters.Given as goal

abbrev pub invariant-loop-bounds : goal.invariant-loop-bounds
invariant-loop-bounds l = All (IsCluster l.self.cells) l.clusters.items
