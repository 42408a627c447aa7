pub mod AgainLemmas
pub mod CropLemmas
pub mod DivergesLemmas
pub mod FloodLemmas
pub mod FloodedLemmas
pub mod FollowLemmas
pub mod NeverRecursLemmas
pub mod RulesOutRestLemmas
