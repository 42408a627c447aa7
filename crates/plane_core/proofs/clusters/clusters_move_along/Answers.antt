use Rattle.plane_core.proofs.lemmas.clusters.ClusterLaws.{moved_law}
use Rattle.plane_core.proofs.clusters.clusters_move_along.Goals as goal

pub returns : goal.returns
returns c = moved_law
