pub mod EnvelopeLemmas
pub mod MarkLemmas
pub mod MemoLemmas
pub mod ObjectLemmas
