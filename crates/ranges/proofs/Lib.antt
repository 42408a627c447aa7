mod BisectionLemmas
pub mod CutLemmas
pub mod DecimalLemmas
pub mod FaultLemmas
pub mod ListLemmas
pub mod NormalLemmas
mod RangeLemmas
mod UnionLemmas
