pub mod HeadlineLemmas
pub mod ProgramLemmas
pub mod RequestLemmas
