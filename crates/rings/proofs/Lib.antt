-- Laws that the proofs of the functions cite.
pub mod Rounds
pub mod Marks
pub mod Passes
pub mod Counting
pub mod Laying
pub mod Areas
pub mod Paths
pub mod Painting
pub mod Layouts
pub mod Matching
pub mod Surveys
pub mod Writing
pub mod Outputs
pub mod Building
pub mod FromRules
pub mod Determined
