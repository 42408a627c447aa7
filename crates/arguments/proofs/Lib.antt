mod KnownLemmas
pub mod LawLemmas
mod NumberLemmas
pub mod RefuseLemmas
mod UseLemmas
mod ValueLemmas
mod WalkLemmas
