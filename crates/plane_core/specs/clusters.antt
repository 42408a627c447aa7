pub mod Clusters
pub mod UnionFind
