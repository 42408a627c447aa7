use Rattle.plane_core.proofs.lemmas.clusters.UnionFindLemmas.{climbs-more}
use Rattle.plane_core.proofs.clusters.union_find.root.Goals as goal

pub loop-at-preserved : goal.loop-at-preserved
loop-at-preserved c = climbs-more c.args.parents.now c.args.place c.loop-at.at c.requires.back c.loop-at.invariant
