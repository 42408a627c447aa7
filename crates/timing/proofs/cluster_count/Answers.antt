use Rattle.std.proofs.Common.{◌∙◌, ap, length}
use Rattle.timing.proofs.cluster_count.Goals as goal

-- a pattern has only one list of clusters, so `clusters` is the list whose length the function returns
pub returns : goal.returns
returns c = λ clusters are.
    c.len.ensures
    ∙ c.in_ok-clusters.clusters.ok.0
    ∙ ap length (c.clusters_are_determined.ensures c.args.pattern.now c.in_ok-clusters.clusters.items clusters c.in_ok-clusters.ensures.clusters are)
