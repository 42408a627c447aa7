pub mod EscapedSpaceships
pub mod Evolutions
pub mod SplitPatterns
