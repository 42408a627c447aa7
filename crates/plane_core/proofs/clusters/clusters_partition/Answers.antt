use Rattle.plane_core.proofs.lemmas.clusters.ClusterLaws.{partition_law}
use Rattle.plane_core.proofs.clusters.clusters_partition.Goals as goal

pub returns : goal.returns
returns c = partition_law
