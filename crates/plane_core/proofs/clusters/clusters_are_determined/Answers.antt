use Rattle.plane_core.proofs.lemmas.clusters.ClusterLaws.{determined_law}
use Rattle.plane_core.proofs.clusters.clusters_are_determined.Goals as goal

pub returns : goal.returns
returns c = determined_law
