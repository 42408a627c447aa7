pub mod CrewSteps
pub mod Crews
pub mod Takes
pub mod Workers
