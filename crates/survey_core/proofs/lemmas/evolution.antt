pub mod EvolutionLemmas
pub mod RemovedLemmas
pub mod SpaceshipLemmas
pub mod SplitPatternLemmas
