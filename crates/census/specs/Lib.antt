pub mod Headline
pub mod Program
pub mod ProgramEnds
pub mod Requests
