use Rattle.std.proofs.Common.{◌-◌, ◌<◌}
use Rattle.plane_core.specs.clusters.UnionFind.{AreRowsAbove, IsForest, JoinsAll}
use Rattle.plane_core.proofs.clusters.union_find.join_all.Given as goal

abbrev pub invariant-loop-place : goal.invariant-loop-place
invariant-loop-place l = (0 < l.place) × IsForest l.cells l.parents × JoinsAll l.cells l.parents l.place × AreRowsAbove l.cells l.rows (l.place - 1)
