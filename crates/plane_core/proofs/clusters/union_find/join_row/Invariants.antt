use Rattle.std.proofs.Common.{◌-◌, ◌≤◌}
use Rattle.plane_core.proofs.lemmas.clusters.UnionFindLemmas.{IsScanning}
use Rattle.plane_core.proofs.clusters.union_find.join_row.Given as goal

abbrev pub invariant-loop-at : goal.invariant-loop-at
invariant-loop-at l = (l.start ≤ l.at) × (l.at ≤ l.row.end) × IsScanning l.cells l.initial.parents l.parents l.place l.start l.at

abbrev pub decreases-loop-at : goal.decreases-loop-at
decreases-loop-at l = l.row.end - l.at
