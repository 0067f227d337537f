-- What the tools print.
pub mod Answers
pub mod Faults
