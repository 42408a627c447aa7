use Rattle.plane_core.specs.clusters.UnionFind.{IsGatheringCells}
use Rattle.plane_core.proofs.clusters.gathered.Given as goal

abbrev pub invariant-loop-place : goal.invariant-loop-place
invariant-loop-place l = IsGatheringCells l.cells l.parents l.clusters.items l.place
