use Rattle.std.proofs.Common.{◌≡◌, ◌<◌, ℕ, length}
use Rattle.plane_core.specs.clusters.UnionFind.{parent_of}
use Rattle.plane_core.proofs.clusters.union_find.roots.Given as goal

abbrev pub invariant-loop-place : goal.invariant-loop-place
invariant-loop-place l = (length l.parents.items ≡ l.count) × ((k : ℕ) → k < l.place → parent_of l.parents.items k ≡ k)
