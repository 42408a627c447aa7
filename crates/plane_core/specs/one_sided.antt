pub mod Crops
pub mod Floods
pub mod FollowedPatterns
pub mod RestlessClusters
