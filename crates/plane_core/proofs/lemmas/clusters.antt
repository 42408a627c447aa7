pub mod ClusterLaws
pub mod ClusterLemmas
pub mod GatherLemmas
pub mod UnionFindLemmas
