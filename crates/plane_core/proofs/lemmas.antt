pub mod Between
pub mod OutputLemmas
pub mod clusters
pub mod engine
pub mod one_sided
pub mod plaintext
pub mod plane
pub mod windows
