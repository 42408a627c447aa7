use Rattle.plane_core.proofs.lemmas.clusters.ClusterLaws.{apart_law}
use Rattle.plane_core.proofs.clusters.clusters_lie_apart.Goals as goal

pub returns : goal.returns
returns c = apart_law
