pub mod LaneSums
pub mod LonePatterns
pub mod Rows
pub mod RuleLogic
pub mod Windows
pub mod Words
