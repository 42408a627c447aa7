pub mod Alone
pub mod Grouping
pub mod Groups
pub mod KnownRestless
pub mod Rest
pub mod RestLaws
