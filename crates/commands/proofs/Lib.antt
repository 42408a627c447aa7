pub mod AheadLemmas
pub mod CorrectLineLemmas
pub mod EndLemmas
mod FinishLemmas
pub mod GatherLemmas
mod GrownLemmas
pub mod HeardLemmas
mod LateLemmas
pub mod LineLemmas
pub mod NumberLemmas
pub mod PieceLemmas
pub mod ReportingLemmas
pub mod StillLemmas
pub mod TakeLemmas
pub mod TakenLemmas
pub mod WorkLemmas
