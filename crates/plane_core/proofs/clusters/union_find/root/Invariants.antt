use Rattle.plane_core.proofs.lemmas.clusters.UnionFindLemmas.{Climbs}
use Rattle.plane_core.proofs.clusters.union_find.root.Given as goal

abbrev pub invariant-loop-at : goal.invariant-loop-at
invariant-loop-at l = Climbs l.parents l.place l.at

abbrev pub decreases-loop-at : goal.decreases-loop-at
decreases-loop-at l = l.at
