pub mod LaneLemmas
pub mod RowPackingLemmas
pub mod RuleLogicLemmas
pub mod ShiftLemmas
pub mod WindowLemmas
pub mod WordLemmas
