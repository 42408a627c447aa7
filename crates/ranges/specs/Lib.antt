pub mod RangeListFaults
pub mod RangeListSteps
pub mod RangeLists
pub mod RangeSteps
pub mod Ranges
