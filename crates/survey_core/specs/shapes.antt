pub mod Envelopes
pub mod ForGood
pub mod Memos
pub mod Objects
pub mod RecurringShapes
